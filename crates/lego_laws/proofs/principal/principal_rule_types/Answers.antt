use Rattle.lego_laws.proofs.principal.principal_rule_types.Goals as goal
use Rattle.lego_laws.proofs.lemmas.principal.PrincipalLaws.{principal_rule_types}

pub returns : goal.returns
returns c = principal_rule_types
