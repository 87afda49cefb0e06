use Rattle.lego_laws.proofs.principal.principal_definitions.Goals as goal
use Rattle.lego_laws.proofs.lemmas.principal.PrincipalLaws.{principal_definitions}

pub returns : goal.returns
returns c = principal_definitions
