use Rattle.lego_laws.proofs.inference.contexts_grow.Goals as goal
use Rattle.lego_laws.proofs.lemmas.inference.InferenceLaws.{contexts_grow}

pub returns : goal.returns
returns c = contexts_grow
