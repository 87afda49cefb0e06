use Rattle.std.proofs.Common.{◌≡◌, ◌≤◌, length, take}
use Rattle.lego_level.proofs.graph.cut.Given as goal

abbrev pub invariant-loop-solver : goal.invariant-loop-solver
invariant-loop-solver l = record {
  first : l.solver ≡ take (length l.solver) l.fn.solver;
  held : l.held ≤ length l.solver;
}

abbrev pub decreases-loop-solver : goal.decreases-loop-solver
decreases-loop-solver l = length l.solver
