use Rattle.lego_laws.proofs.examples.universes_are_no_propositions.Goals as goal
use Rattle.lego_laws.proofs.lemmas.examples.ExampleProofs.{universes_are_no_propositions}

pub returns : goal.returns
returns c = universes_are_no_propositions
