use Rattle.lego_laws.proofs.comparison.facing_parts_are_related.Goals as goal
use Rattle.lego_laws.proofs.lemmas.comparison.Differing.{facing_parts_are_related}

pub returns : goal.returns
returns c = facing_parts_are_related
