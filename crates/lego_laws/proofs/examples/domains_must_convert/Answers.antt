use Rattle.lego_laws.proofs.examples.domains_must_convert.Goals as goal
use Rattle.lego_laws.proofs.lemmas.examples.ExampleProofs.{domains_must_convert}

pub returns : goal.returns
returns c = domains_must_convert
