use Rattle.lego_laws.proofs.examples.application_has_its_shape.Goals as goal
use Rattle.lego_laws.proofs.lemmas.examples.ShapeExamples.{application_has_its_shape}

pub returns : goal.returns
returns c = application_has_its_shape
