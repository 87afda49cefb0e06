use Rattle.lego_laws.proofs.constants.prefixes_are_valid.Goals as goal
use Rattle.lego_laws.proofs.lemmas.constants.ExpansionLaws.{prefixes_are_valid}

pub returns : goal.returns
returns c = prefixes_are_valid
