use Rattle.lego_laws.proofs.reduction.head_forms_compare.Goals as goal
use Rattle.lego_laws.proofs.lemmas.reduction.Head.{head_forms_compare}

pub returns : goal.returns
returns c = head_forms_compare
