use Rattle.lego_laws.proofs.examples.older_variables_stay_free.Goals as goal
use Rattle.lego_laws.proofs.lemmas.examples.ExampleProofs.{older_variables_stay_free}

pub returns : goal.returns
returns c = older_variables_stay_free
