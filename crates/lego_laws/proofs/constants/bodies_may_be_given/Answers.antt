use Rattle.lego_laws.proofs.constants.bodies_may_be_given.Goals as goal
use Rattle.lego_laws.proofs.lemmas.constants.GivenBodies.{bodies_may_be_given}

pub returns : goal.returns
returns c = bodies_may_be_given
