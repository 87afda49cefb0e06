use Rattle.std.proofs.Common.{◌≡◌, take}
use Rattle.lego_context.specs.Entries.{constraints_of}
use Rattle.lego_context.proofs.context.copying.graph_of.Given as goal

abbrev pub invariant-loop-entry : goal.invariant-loop-entry
invariant-loop-entry l = l.graph ≡ constraints_of (take l.entry-index l.entries)
