use Rattle.lego_laws.proofs.reduction.steps_keep_at_values.Goals as goal
use Rattle.lego_laws.proofs.lemmas.reduction.Valued.{steps_keep_at_values}

pub returns : goal.returns
returns c = steps_keep_at_values
