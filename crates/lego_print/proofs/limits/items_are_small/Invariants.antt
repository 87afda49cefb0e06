use Rattle.std.proofs.Common.{All, take}
use Rattle.lego_print.specs.Entries.{item_entry}
use Rattle.lego_print.specs.Showable.{IsSmallEntry}
use Rattle.lego_print.proofs.limits.items_are_small.Given as goal

abbrev pub invariant-loop-item : goal.invariant-loop-item
invariant-loop-item l = All (λ i. IsSmallEntry l.values (item_entry i)) (take l.item-index l.items)
