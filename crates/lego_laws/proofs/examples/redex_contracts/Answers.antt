use Rattle.lego_laws.proofs.examples.redex_contracts.Goals as goal
use Rattle.lego_laws.proofs.lemmas.examples.ExampleProofs.{redex_contracts}

pub returns : goal.returns
returns c = redex_contracts
