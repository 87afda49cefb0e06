use Rattle.lego_laws.proofs.reduction.steps_substitute.Goals as goal
use Rattle.lego_laws.proofs.lemmas.reduction.Substituted.{steps_substitute}

pub returns : goal.returns
returns c = steps_substitute
