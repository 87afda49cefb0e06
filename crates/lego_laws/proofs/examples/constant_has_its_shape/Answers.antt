use Rattle.lego_laws.proofs.examples.constant_has_its_shape.Goals as goal
use Rattle.lego_laws.proofs.lemmas.examples.ShapeExample.{constant_has_its_shape}

pub returns : goal.returns
returns c = constant_has_its_shape
