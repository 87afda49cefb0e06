use Rattle.lego_laws.proofs.examples.domains_must_be_types.Goals as goal
use Rattle.lego_laws.proofs.lemmas.examples.ShapeExamples.{domains_must_be_types}

pub returns : goal.returns
returns c = domains_must_be_types
