use Rattle.std.proofs.Common.{◌≡◌, ◌++◌, drop}
use Rattle.lego_print.specs.Lines.{constraint_lines}
use Rattle.lego_print.proofs.lines.push_constraints.Given as goal

abbrev pub invariant-loop-constraint : goal.invariant-loop-constraint
invariant-loop-constraint l =
    l.text.items ++ constraint_lines (drop l.constraint-index l.cycle) ≡ l.fn.text.items ++ constraint_lines l.cycle
