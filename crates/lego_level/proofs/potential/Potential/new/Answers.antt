use Rattle.std.proofs.Common.{refl}
use Rattle.lego_level.proofs.PotentialLemmas.{value_start}
use Rattle.lego_level.proofs.potential.Potential.new.Goals as goal

pub returns-clause-start : goal.returns-clause-start
returns-clause-start c = value_start _ refl c.new.ensures.items
