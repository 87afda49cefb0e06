use Rattle.lego_laws.proofs.comparison.fewer_steps_are_counted.Goals as goal
use Rattle.lego_laws.proofs.lemmas.comparison.Counted.{fewer_steps_are_counted}

pub returns : goal.returns
returns c = fewer_steps_are_counted
