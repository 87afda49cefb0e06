use Rattle.std.proofs.Common.{◌≡◌, ℕ, ◌||◌, nat_eq, drop}
use Rattle.std.specs.List.{list_any}
use Rattle.lego_print.specs.Entries.{item_entries}
use Rattle.lego_print.specs.Developments.{occurs_in}
use Rattle.lego_print.proofs.universes.variables_of.Given as goal

abbrev pub invariant-loop-item : goal.invariant-loop-item
invariant-loop-item l =
    (u : ℕ) → (list_any (nat_eq u) l.variables.keys || occurs_in (item_entries (drop l.item-index l.items)) u) ≡ occurs_in (item_entries l.items) u
