use Rattle.lego_laws.proofs.principal.principal_checks.Goals as goal
use Rattle.lego_laws.proofs.lemmas.principal.PrincipalLaws.{principal_checks}

pub returns : goal.returns
returns c = principal_checks
