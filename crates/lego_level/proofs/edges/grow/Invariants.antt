use Rattle.std.proofs.Common.{◌≡◌, ℕ, [], ◌+◌, ◌-◌, length, get_or}
use Rattle.lego_level.proofs.edges.grow.Given as goal

abbrev pub invariant-loop-alloc : goal.invariant-loop-alloc
invariant-loop-alloc l = (u : ℕ) → get_or l.variables.items u [] ≡ get_or l.fn.variables.items u []

abbrev pub decreases-loop-alloc : goal.decreases-loop-alloc
decreases-loop-alloc l = l.variable + 1 - length l.variables.items
