use Rattle.std.proofs.Common.{◌≡◌, not, length}
use lib.Dec.{eqb}
use Rattle.lego_parser.specs.private.Trees.{built}
use Rattle.lego_grammar.specs.private.Machine.{closed}
use Rattle.lego_parser.specs.private.Stack.{stack}
use Rattle.lego_parser.proofs.machine.Machine.close.Given as goal

abbrev pub invariant-loop-value : goal.invariant-loop-value
invariant-loop-value g l =
    closed (not (eqb g.row.BUILDING 0)) (built l.initial.value) (stack l.initial.self) ≡ closed (not (eqb g.row.BUILDING 0)) (built l.value) (stack l.self)

abbrev pub decreases-loop-value : goal.decreases-loop-value
decreases-loop-value g l = length (stack l.self)
