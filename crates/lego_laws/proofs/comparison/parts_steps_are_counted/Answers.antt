use Rattle.lego_laws.proofs.comparison.parts_steps_are_counted.Goals as goal
use Rattle.lego_laws.proofs.lemmas.comparison.Counted.{parts_steps_are_counted}

pub returns : goal.returns
returns c = parts_steps_are_counted
