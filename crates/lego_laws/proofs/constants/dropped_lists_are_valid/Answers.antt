use Rattle.lego_laws.proofs.constants.dropped_lists_are_valid.Goals as goal
use Rattle.lego_laws.proofs.lemmas.constants.StrengtheningLaws.{dropped_lists_are_valid}

pub returns : goal.returns
returns c = dropped_lists_are_valid
