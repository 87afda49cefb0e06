use Rattle.std.proofs.Common.{◌≡◌, ◌++◌, [], drop}
use Rattle.lego_print.specs.Texts.{outer_scope}
use Rattle.lego_print.specs.Entries.{item_entries}
use Rattle.lego_print.specs.Developments.{entry_commands}
use Rattle.lego_print.proofs.development.push_commands.Given as goal

abbrev pub invariant-loop-item : goal.invariant-loop-item
invariant-loop-item g l = record {
  none : l.page.locals ≡ [];
  text : l.page.text.items ++ entry_commands l.levels (outer_scope l.names (g.E.Entries.called l.all) l.before) (item_entries (drop l.item-index l.items))
      ≡ l.fn.page.text.items ++ entry_commands l.levels (outer_scope l.names (g.E.Entries.called l.all) []) (item_entries l.items);
}
