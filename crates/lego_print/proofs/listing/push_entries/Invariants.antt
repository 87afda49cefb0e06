use Rattle.std.proofs.Common.{◌≡◌, ◌++◌, [], drop}
use Rattle.lego_print.specs.Texts.{outer_scope}
use Rattle.lego_print.specs.Entries.{item_entries}
use Rattle.lego_print.specs.EntryLines.{entry_lines}
use Rattle.lego_print.proofs.listing.push_entries.Given as goal

abbrev pub invariant-loop-item : goal.invariant-loop-item
invariant-loop-item g l = record {
  none : l.page.locals ≡ [];
  text : l.page.text.items
      ++ entry_lines l.levels (outer_scope l.names (g.E.Entries.called l.before) (g.E.Entries.in_scope l.before ++ l.added)) (item_entries (drop l.item-index l.items))
      ≡ l.fn.page.text.items ++ entry_lines l.levels (outer_scope l.names (g.E.Entries.called l.before) (g.E.Entries.in_scope l.before)) (item_entries l.items);
}
