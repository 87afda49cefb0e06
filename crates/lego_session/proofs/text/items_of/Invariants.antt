use Rattle.std.proofs.Common.{take}
use Rattle.lego_session.specs.private.Items.{AreItemsOf}
use Rattle.lego_session.proofs.text.items_of.Given as goal

abbrev pub invariant-loop-entry : goal.invariant-loop-entry
invariant-loop-entry l = AreItemsOf l.items.items (take l.entry-index l.entries)
