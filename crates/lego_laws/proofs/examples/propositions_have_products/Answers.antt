use Rattle.lego_laws.proofs.examples.propositions_have_products.Goals as goal
use Rattle.lego_laws.proofs.lemmas.examples.ExampleProofs.{propositions_have_products}

pub returns : goal.returns
returns c = propositions_have_products
