use Rattle.lego_laws.proofs.examples.written_type_counts.Goals as goal
use Rattle.lego_laws.proofs.lemmas.examples.ExampleProofs.{written_type_counts}

pub returns : goal.returns
returns c = written_type_counts
