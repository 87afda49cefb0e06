use Rattle.std.proofs.Common.{◌≡◌, ◌-◌, length, take, subst}
use Rattle.lego_level.specs.private.Potentials.{value_at}
use Rattle.lego_level.proofs.SolverLemmas.{popped, feasible_front}
use Rattle.lego_level.proofs.solver.Solver.pop.Goals as goal

pub invariant_of-self : goal.invariant_of-self
invariant_of-self c = (
  feasible_front (value_at c.self.inside.potential) (length c.self.inside.edges - 1) c.self.inside.edges c.pop.new.self (popped c.self.inside.edges c.pop.new.self c.pop.ensures.none c.pop.ensures.some) c.self.invariant.0,
  c.self.invariant.1,
)

pub returns : goal.returns
returns c = subst (λ z. c.pop.new.self ≡ take (length z - 1) z) c.self.view_is (popped c.self.inside.edges c.pop.new.self c.pop.ensures.none c.pop.ensures.some)
