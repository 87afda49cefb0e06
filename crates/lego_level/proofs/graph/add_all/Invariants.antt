use Rattle.std.proofs.Common.{◌≡◌, ◌++◌, take}
use Rattle.lego_level.proofs.graph.add_all.Given as goal

abbrev pub invariant-loop-constraint : goal.invariant-loop-constraint
invariant-loop-constraint l = l.solver ≡ l.fn.solver ++ take l.constraint-index l.more
