use Rattle.lego_laws.proofs.comparison.head_steps_come_first.Goals as goal
use Rattle.lego_laws.proofs.lemmas.comparison.Counted.{head_steps_come_first}

pub returns : goal.returns
returns c = head_steps_come_first
