use Rattle.lego_laws.proofs.examples.rule_type_of_local.Goals as goal
use Rattle.lego_laws.proofs.lemmas.examples.LocalExamples.{rule_type_of_local}

pub returns : goal.returns
returns c = rule_type_of_local
