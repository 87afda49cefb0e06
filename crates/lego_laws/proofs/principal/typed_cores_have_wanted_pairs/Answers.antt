use Rattle.lego_laws.proofs.principal.typed_cores_have_wanted_pairs.Goals as goal
use Rattle.lego_laws.proofs.lemmas.principal.Shaped.{typed_cores_have_wanted_pairs}

pub returns : goal.returns
returns c = typed_cores_have_wanted_pairs
