use Rattle.lego_laws.proofs.reduction.parallel_steps_meet.Goals as goal
use Rattle.lego_laws.proofs.lemmas.reduction.CommonReducts.{parallel_steps_meet}

pub returns : goal.returns
returns c = parallel_steps_meet
