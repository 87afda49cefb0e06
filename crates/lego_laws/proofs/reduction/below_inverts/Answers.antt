use Rattle.lego_laws.proofs.reduction.below_inverts.Goals as goal
use Rattle.lego_laws.proofs.lemmas.reduction.Below.{below_inverts}

pub returns : goal.returns
returns c = below_inverts
