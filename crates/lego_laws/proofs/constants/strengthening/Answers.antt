use Rattle.lego_laws.proofs.constants.strengthening.Goals as goal
use Rattle.lego_laws.proofs.lemmas.constants.StrengtheningLaws.{strengthening}

pub returns : goal.returns
returns c = strengthening
