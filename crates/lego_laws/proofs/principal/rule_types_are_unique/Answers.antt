use Rattle.lego_laws.proofs.principal.rule_types_are_unique.Goals as goal
use Rattle.lego_laws.proofs.lemmas.principal.RuleTypesUnique.{rule_types_are_unique}

pub returns : goal.returns
returns c = rule_types_are_unique
