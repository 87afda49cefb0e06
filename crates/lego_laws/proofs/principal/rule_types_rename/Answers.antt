use Rattle.lego_laws.proofs.principal.rule_types_rename.Goals as goal
use Rattle.lego_laws.proofs.lemmas.principal.RuleTypesRenamed.{rule_types_rename}

pub returns : goal.returns
returns c = rule_types_rename
