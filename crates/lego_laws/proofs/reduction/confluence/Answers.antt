use Rattle.lego_laws.proofs.reduction.confluence.Goals as goal
use Rattle.lego_laws.proofs.lemmas.reduction.CommonReducts.{confluence}

pub returns : goal.returns
returns c = confluence
