use Rattle.lego_laws.proofs.examples.constants_dont_count.Goals as goal
use Rattle.lego_laws.proofs.lemmas.examples.ExampleProofs.{constants_dont_count}

pub returns : goal.returns
returns c = constants_dont_count
