use Rattle.std.proofs.Common.{◌≡◌, ◌+◌, ◌++◌, ◌∷◌, List, nat_eq, get_or, drop, suc, sym, ap, ◌∙◌, add-one, drop-cons}
use Rattle.std.specs.List.{list_any}
use Rattle.lego_print.specs.declared.universes.Universe.{Universe}
use Rattle.lego_print.specs.Developments.{used_once}
use Rattle.lego_print.proofs.DevelopmentLemmas.{used_step, unused_step}
use Rattle.lego_print.proofs.universes.used_once.Goals.{then-swap_remove+in_ok-push, else-swap_remove}
use Rattle.lego_print.proofs.universes.used_once.Goals as goal

pub loop-universe-preserved : goal.loop-universe-preserved
loop-universe-preserved c =
    let i = c.loop-universe.universe-index in
    let us = c.args.universes.now in
    let keys = c.loop-universe.variables.keys in
    let new = c.swap_remove.new.self.keys in
    let old = c.loop-universe.used.items in
    let u : Universe = get_or us i record { variable = 0; place = record { line = 0; column = 0 } } in
    let one : i + 1 ≡ suc i = add-one i in
    let cons : drop i us ≡ u ∷ drop (i + 1) us = rw one (drop-cons us i record { variable = 0; place = record { line = 0; column = 0 } } c.loop-universe-test.true) in
    let before : old ++ used_once (λ w. list_any (nat_eq w) keys) (u ∷ drop (i + 1) us) ≡ used_once (λ w. list_any (nat_eq w) c.args.variables.keys) us =
    ap (λ (l : List Universe). old ++ used_once (λ w. list_any (nat_eq w) keys) l) (sym cons) ∙ c.loop-universe.invariant in
    elim c.if-swap_remove.branch [
      | then-swap_remove+in_ok-push w ↦
          ap (λ v. v.items ++ used_once (λ w. list_any (nat_eq w) new) (drop (i + 1) us)) w.used-is
          ∙ ap (λ (l : List Universe). l ++ used_once (λ w. list_any (nat_eq w) new) (drop (i + 1) us)) w.in_ok-push.ensures.items
          ∙ used_step keys new u (drop (i + 1) us) old (sym c.swap_remove.ensures.found ∙ w.if-swap_remove.true) c.swap_remove.ensures.updates.0
          ∙ before
      | else-swap_remove w ↦
          ap (λ v. v.items ++ used_once (λ w. list_any (nat_eq w) new) (drop (i + 1) us)) w.used-is
          ∙ unused_step keys new u (drop (i + 1) us) old (sym c.swap_remove.ensures.found ∙ w.if-swap_remove.false) c.swap_remove.ensures.updates.0
          ∙ before
    ]
