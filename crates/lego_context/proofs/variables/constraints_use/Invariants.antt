use Rattle.std.proofs.Common.{◌≡◌, ◌||◌, false, take}
use Rattle.std.specs.List.{list_any}
use Rattle.lego_term.specs.Trees.{is_over}
use Rattle.lego_level.specs.Graphs.{pairs_of}
use Rattle.lego_context.proofs.variables.constraints_use.Given as goal

abbrev pub invariant-loop-constraint : goal.invariant-loop-constraint
invariant-loop-constraint l = list_any (λ c. is_over l.variable c.low || is_over l.variable c.high) (pairs_of (take l.constraint-index l.constraints)) ≡ false
