use Rattle.lego_laws.proofs.principal.shaped_cores_are_typed.Goals as goal
use Rattle.lego_laws.proofs.lemmas.principal.SolvedCores.{shaped_cores_are_typed}

pub returns : goal.returns
returns c = shaped_cores_are_typed
