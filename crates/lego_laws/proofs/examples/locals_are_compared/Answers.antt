use Rattle.lego_laws.proofs.examples.locals_are_compared.Goals as goal
use Rattle.lego_laws.proofs.lemmas.examples.LocalShapes.{locals_are_compared}

pub returns : goal.returns
returns c = locals_are_compared
