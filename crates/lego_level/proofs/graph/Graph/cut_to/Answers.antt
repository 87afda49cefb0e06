use Rattle.std.proofs.Common.{sym, subst}
use Rattle.lego_level.specs.Graphs.{CanBeSatisfiedWithin}
use Rattle.lego_level.proofs.GraphLemmas.{within_take}
use Rattle.lego_level.proofs.graph.Graph.cut_to.Goals as goal

pub invariant_of-self : goal.invariant_of-self
invariant_of-self c = subst CanBeSatisfiedWithin (sym c.cut.ensures) (within_take c.args.n c.self.inside.solver c.self.invariant)
