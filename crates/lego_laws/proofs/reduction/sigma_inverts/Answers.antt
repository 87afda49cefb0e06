use Rattle.lego_laws.proofs.reduction.sigma_inverts.Goals as goal
use Rattle.lego_laws.proofs.lemmas.reduction.Below.{sigma_types_invert}

pub returns : goal.returns
returns c = sigma_types_invert
