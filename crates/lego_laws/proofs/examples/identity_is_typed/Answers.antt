use Rattle.lego_laws.proofs.examples.identity_is_typed.Goals as goal
use Rattle.lego_laws.proofs.lemmas.examples.ExampleProofs.{identity_is_typed}

pub returns : goal.returns
returns c = identity_is_typed
