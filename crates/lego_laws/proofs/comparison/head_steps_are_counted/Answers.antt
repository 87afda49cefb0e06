use Rattle.lego_laws.proofs.comparison.head_steps_are_counted.Goals as goal
use Rattle.lego_laws.proofs.lemmas.comparison.Counted.{head_steps_are_counted}

pub returns : goal.returns
returns c = head_steps_are_counted
