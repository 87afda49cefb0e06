use Rattle.std.proofs.Common.{◌≡◌, ℕ, Option, take, Contains}
use Rattle.lego_level.specs.private.Potentials.{value_at, HasRoom, IsBelowTop}
use Rattle.lego_level.proofs.solver.reserve_all.Given as goal

abbrev pub invariant-loop-node : goal.invariant-loop-node
invariant-loop-node l = record {
  room : (u : Option ℕ) → Contains (take l.node-index l.draft.touched.items) u → HasRoom l.potential u;
  same : value_at l.potential ≡ value_at l.fn.potential;
  top : IsBelowTop l.fn.potential → IsBelowTop l.potential;
}
