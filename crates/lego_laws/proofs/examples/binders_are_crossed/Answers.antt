use Rattle.lego_laws.proofs.examples.binders_are_crossed.Goals as goal
use Rattle.lego_laws.proofs.lemmas.examples.ExampleProofs.{binders_are_crossed}

pub returns : goal.returns
returns c = binders_are_crossed
