use Rattle.lego_laws.proofs.examples.local_has_its_shape.Goals as goal
use Rattle.lego_laws.proofs.lemmas.examples.LocalShapes.{local_has_its_shape}

pub returns : goal.returns
returns c = local_has_its_shape
