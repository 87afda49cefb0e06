use Rattle.std.proofs.Common.{ℕ, Option, drop}
use Rattle.lego_level.specs.private.Potentials.{value_at, HasRoom, IsBelowTop}
use Rattle.lego_level.specs.private.Searches.{reached_at}
use Rattle.lego_level.proofs.SolverLemmas.{IsMoving}
use Rattle.lego_level.proofs.solver.keep.Given as goal

abbrev pub invariant-loop-node : goal.invariant-loop-node
invariant-loop-node l = record {
  room : (u : Option ℕ) → HasRoom l.fn.potential u → HasRoom l.potential u;
  moving : (u : Option ℕ) → IsMoving (value_at l.fn.potential) (value_at l.potential) (reached_at l.draft) (drop l.node-index l.draft.touched.items) u;
  top : IsBelowTop l.fn.potential → IsBelowTop l.potential;
}
