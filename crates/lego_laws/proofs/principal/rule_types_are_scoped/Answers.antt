use Rattle.lego_laws.proofs.principal.rule_types_are_scoped.Goals as goal
use Rattle.lego_laws.proofs.lemmas.principal.Scoped.{rule_types_are_scoped}

pub returns : goal.returns
returns c = rule_types_are_scoped
