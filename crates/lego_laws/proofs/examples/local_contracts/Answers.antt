use Rattle.lego_laws.proofs.examples.local_contracts.Goals as goal
use Rattle.lego_laws.proofs.lemmas.examples.LocalExamples.{local_contracts}

pub returns : goal.returns
returns c = local_contracts
