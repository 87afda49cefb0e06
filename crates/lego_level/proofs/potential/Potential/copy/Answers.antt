use Rattle.std.proofs.Common.{refl, arith}
use Rattle.std.proofs.lemmas.Grind.{common_steps}
use Rattle.lego_level.proofs.PotentialLemmas.{value_same}
use Rattle.lego_level.proofs.potential.Potential.copy.Goals as goal

pub returns-clause-values : goal.returns-clause-values
returns-clause-values c = value_same c.args.self.now _ refl (grind (arith, common_steps))
