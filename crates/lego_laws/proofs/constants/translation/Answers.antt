use Rattle.lego_laws.proofs.constants.translation.Goals as goal
use Rattle.lego_laws.proofs.lemmas.constants.ExpansionLaws.{translation}

pub returns : goal.returns
returns c = translation
