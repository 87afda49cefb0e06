use Rattle.lego_laws.proofs.constants.steps_bring_no_local.Goals as goal
use Rattle.lego_laws.proofs.lemmas.constants.NoLocals.{steps_bring_no_local}

pub returns : goal.returns
returns c = steps_bring_no_local
