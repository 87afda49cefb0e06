use Rattle.lego_laws.proofs.typing.generalisation.Goals as goal
use Rattle.lego_laws.proofs.lemmas.typing.Generalised.{generalisation}

pub returns : goal.returns
returns c = generalisation
