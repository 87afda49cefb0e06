use Rattle.lego_laws.proofs.constants.abstraction.Goals as goal
use Rattle.lego_laws.proofs.lemmas.constants.Abstracted.{abstraction}

pub returns : goal.returns
returns c = abstraction
