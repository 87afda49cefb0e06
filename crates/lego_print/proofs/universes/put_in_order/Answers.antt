use Rattle.std.proofs.Common.{rules}
use Rattle.std.proofs.lemmas.List.Sorted.{answers_always}
use Rattle.lego_print.specs.Developments.{is_before}
use Rattle.lego_print.proofs.DevelopmentLemmas.{places_in_order, ok_weaker}
use Rattle.lego_print.proofs.universes.put_in_order.Goals as goal

pub returns-clause-order : goal.returns-clause-order
returns-clause-order c = let s = c.sort_by.ensures.sorted in ok_weaker c.sort_by.result (λ h. h (λ u w. is_before u.place w.place) places_in_order (answers_always _ _ _ (λ f a r f' k. search rules))) s
