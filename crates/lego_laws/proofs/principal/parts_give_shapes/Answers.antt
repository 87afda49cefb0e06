use Rattle.lego_laws.proofs.principal.parts_give_shapes.Goals as goal
use Rattle.lego_laws.proofs.lemmas.principal.ShapedParts.{parts_give_shapes}

pub returns : goal.returns
returns c = parts_give_shapes
