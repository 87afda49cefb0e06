use Rattle.std.proofs.Common.{take}
use Rattle.lego_context.specs.Entries.{HasNoHole}
use Rattle.lego_tests.proofs.undo.has_no_hole.Given as goal

abbrev pub invariant-loop-entry : goal.invariant-loop-entry
invariant-loop-entry l = HasNoHole (take l.entry-index l.context.entries)
