use Rattle.lego_laws.proofs.principal.reached_wants_give_shapes.Goals as goal
use Rattle.lego_laws.proofs.lemmas.principal.ReachedShapes.{reached_wants_give_shapes}

pub returns : goal.returns
returns c = reached_wants_give_shapes
