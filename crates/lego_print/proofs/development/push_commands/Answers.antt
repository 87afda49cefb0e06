use Rattle.std.proofs.Common.{◌≡◌, ◌+◌, ◌++◌, ◌∷◌, List, ℕ, drop, suc, sym, ap, ◌∙◌, add-one, drop-cons}
use Rattle.lego_print.specs.declared.item.Item.{Item}
use Rattle.lego_print.specs.Entries.{item_entry, item_entries, entry_command}
use Rattle.lego_print.specs.Developments.{entry_commands}
use Rattle.lego_print.specs.Texts.{outer_scope}
use Rattle.lego_print.proofs.DevelopmentLemmas.{commands_step}
use Rattle.lego_print.proofs.development.push_commands.Goals as goal

pub loop-item-preserved : goal.loop-item-preserved
loop-item-preserved g c =
    let i = c.loop-item.item-index in
    let items = c.args.items.now in
    let called = g.E.Entries.called c.args.all.now in
    let names = c.args.names.now in
    let levels = c.args.levels in
    let old = c.loop-item.page.text.items in
    let item = c.item-item.result in
    let one : i + 1 ≡ suc i = add-one i in
    let cons : drop i items ≡ item ∷ drop (i + 1) items =
    rw one (drop-cons items i item c.loop-item-test.true ∙ ap (λ (x : Item). x ∷ drop (suc i) items) (sym c.item-item.is)) in
    record {
      none = c.in_ok-push_command.ensures.locals;
      text = ap (λ (t : List ℕ). t ++ entry_commands levels (outer_scope names called c.add.new.self) (item_entries (drop (i + 1) items))) c.in_ok-push_command.ensures.text
          ∙ ap (λ (b : List ℕ). (old ++ entry_command levels (outer_scope names called c.loop-item.before) (item_entry item)) ++ entry_commands levels (outer_scope names called b) (item_entries (drop (i + 1) items))) c.in_ok-add.ensures
          ∙ commands_step levels names called c.loop-item.before item (drop (i + 1) items) old
          ∙ ap (λ (is : List Item). old ++ entry_commands levels (outer_scope names called c.loop-item.before) (item_entries is)) (sym cons)
          ∙ c.loop-item.invariant.text;
    }
