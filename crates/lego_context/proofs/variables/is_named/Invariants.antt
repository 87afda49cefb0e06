use Rattle.std.proofs.Common.{◌≡◌, false, take}
use Rattle.std.specs.List.{list_any}
use Rattle.lego_laws.specs.Entries.{entry_uses}
use Rattle.lego_inference.specs.Entries.{laws_entries}
use Rattle.lego_context.proofs.variables.is_named.Given as goal

abbrev pub invariant-loop-entry : goal.invariant-loop-entry
invariant-loop-entry l = list_any (entry_uses l.variable) (laws_entries (take l.entry-index l.entries)) ≡ false
