use Rattle.lego_laws.proofs.examples.levels_dont_count_at_zero.Goals as goal
use Rattle.lego_laws.proofs.lemmas.examples.ExampleProofs.{levels_dont_count_at_zero}

pub returns : goal.returns
returns c = levels_dont_count_at_zero
