use Rattle.lego_laws.proofs.constants.judgements_over_reduced_lists.Goals as goal
use Rattle.lego_laws.proofs.lemmas.constants.ReducedLists.{judgements_over_reduced_lists}

pub returns : goal.returns
returns c = judgements_over_reduced_lists
