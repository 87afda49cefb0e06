use Rattle.lego_laws.proofs.examples.local_is_typed.Goals as goal
use Rattle.lego_laws.proofs.lemmas.examples.LocalExamples.{local_is_typed}

pub returns : goal.returns
returns c = local_is_typed
