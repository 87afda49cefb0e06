use Rattle.lego_laws.proofs.constants.reduced_lists_are_valid.Goals as goal
use Rattle.lego_laws.proofs.lemmas.constants.ReducedLists.{reduced_lists_are_valid}

pub returns : goal.returns
returns c = reduced_lists_are_valid
