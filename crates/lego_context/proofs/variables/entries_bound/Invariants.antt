use Rattle.std.proofs.Common.{◌≡◌, take}
use Rattle.lego_laws.specs.Principal.{entries_bound}
use Rattle.lego_inference.specs.Entries.{laws_entries}
use Rattle.lego_context.proofs.variables.entries_bound.Given as goal

abbrev pub invariant-loop-entry : goal.invariant-loop-entry
invariant-loop-entry l = l.bound ≡ entries_bound (laws_entries (take l.entry-index l.entries))
