use Rattle.lego_laws.proofs.examples.universe_fits_exactly.Goals as goal
use Rattle.lego_laws.proofs.lemmas.examples.ExampleProofs.{universe_fits_exactly}

pub returns : goal.returns
returns c = universe_fits_exactly
