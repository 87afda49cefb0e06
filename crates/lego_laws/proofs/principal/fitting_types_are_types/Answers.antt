use Rattle.lego_laws.proofs.principal.fitting_types_are_types.Goals as goal
use Rattle.lego_laws.proofs.lemmas.principal.Tasks.{fitting_types_are_types}

pub returns : goal.returns
returns c = fitting_types_are_types
