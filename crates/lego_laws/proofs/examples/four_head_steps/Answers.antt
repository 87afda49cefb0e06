use Rattle.lego_laws.proofs.examples.four_head_steps.Goals as goal
use Rattle.lego_laws.proofs.lemmas.examples.ExampleProofs.{four_head_steps}

pub returns : goal.returns
returns c = four_head_steps
