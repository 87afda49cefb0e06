use Rattle.lego_laws.proofs.comparison.walked_steps_are_counted.Goals as goal
use Rattle.lego_laws.proofs.lemmas.comparison.Counted.{walked_steps_are_counted}

pub returns : goal.returns
returns c = walked_steps_are_counted
