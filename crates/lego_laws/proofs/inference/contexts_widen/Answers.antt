use Rattle.lego_laws.proofs.inference.contexts_widen.Goals as goal
use Rattle.lego_laws.proofs.lemmas.inference.InferenceLaws.{contexts_widen}

pub returns : goal.returns
returns c = contexts_widen
