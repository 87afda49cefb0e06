use Rattle.lego_laws.proofs.constants.filled_lists_are_valid.Goals as goal
use Rattle.lego_laws.proofs.lemmas.constants.ExpansionLaws.{filled_lists_are_valid}

pub returns : goal.returns
returns c = filled_lists_are_valid
