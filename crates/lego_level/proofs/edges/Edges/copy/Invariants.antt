use Rattle.std.proofs.Common.{◌≡◌, take}
use Rattle.lego_level.proofs.edges.Edges.copy.Given as goal

abbrev pub invariant-loop-constraint : goal.invariant-loop-constraint
invariant-loop-constraint l = l.copy ≡ take l.constraint-index l.self
