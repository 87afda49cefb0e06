use Rattle.lego_laws.proofs.examples.no_sort_is_in_itself.Goals as goal
use Rattle.lego_laws.proofs.lemmas.examples.ExampleProofs.{no_sort_is_in_itself}

pub returns : goal.returns
returns c = no_sort_is_in_itself
