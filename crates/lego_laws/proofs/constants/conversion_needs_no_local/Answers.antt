use Rattle.lego_laws.proofs.constants.conversion_needs_no_local.Goals as goal
use Rattle.lego_laws.proofs.lemmas.constants.NoLocals.{conversion_needs_no_local}

pub returns : goal.returns
returns c = conversion_needs_no_local
