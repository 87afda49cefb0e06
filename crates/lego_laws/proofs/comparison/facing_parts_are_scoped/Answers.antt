use Rattle.lego_laws.proofs.comparison.facing_parts_are_scoped.Goals as goal
use Rattle.lego_laws.proofs.lemmas.comparison.Crossing.{facing_parts_are_scoped}

pub returns : goal.returns
returns c = facing_parts_are_scoped
