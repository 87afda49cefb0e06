use Rattle.lego_laws.proofs.principal.rule_types_are_below.Goals as goal
use Rattle.lego_laws.proofs.lemmas.principal.Shaped.{rule_types_are_below}

pub returns : goal.returns
returns c = rule_types_are_below
