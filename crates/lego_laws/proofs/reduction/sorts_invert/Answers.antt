use Rattle.lego_laws.proofs.reduction.sorts_invert.Goals as goal
use Rattle.lego_laws.proofs.lemmas.reduction.Below.{sorts_invert}

pub returns : goal.returns
returns c = sorts_invert
