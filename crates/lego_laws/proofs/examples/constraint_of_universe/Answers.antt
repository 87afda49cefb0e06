use Rattle.lego_laws.proofs.examples.constraint_of_universe.Goals as goal
use Rattle.lego_laws.proofs.lemmas.examples.ConstraintExample.{constraint_of_universe}

pub returns : goal.returns
returns c = constraint_of_universe
