use Rattle.lego_laws.proofs.examples.pair_is_typed.Goals as goal
use Rattle.lego_laws.proofs.lemmas.examples.LocalExamples.{pair_is_typed}

pub returns : goal.returns
returns c = pair_is_typed
