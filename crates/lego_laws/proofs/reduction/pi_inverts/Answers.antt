use Rattle.lego_laws.proofs.reduction.pi_inverts.Goals as goal
use Rattle.lego_laws.proofs.lemmas.reduction.Below.{products_invert}

pub returns : goal.returns
returns c = products_invert
