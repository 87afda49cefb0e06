use Rattle.lego_laws.proofs.examples.rule_type_of_identity.Goals as goal
use Rattle.lego_laws.proofs.lemmas.examples.ExampleProofs.{rule_type_of_identity}

pub returns : goal.returns
returns c = rule_type_of_identity
