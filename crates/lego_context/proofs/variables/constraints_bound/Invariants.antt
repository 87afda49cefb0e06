use Rattle.std.proofs.Common.{◌≡◌, take}
use Rattle.lego_laws.specs.Ranges.{pairs_bound}
use Rattle.lego_level.specs.Graphs.{pairs_of}
use Rattle.lego_context.proofs.variables.constraints_bound.Given as goal

abbrev pub invariant-loop-constraint : goal.invariant-loop-constraint
invariant-loop-constraint l = l.bound ≡ pairs_bound (pairs_of (take l.constraint-index l.constraints))
