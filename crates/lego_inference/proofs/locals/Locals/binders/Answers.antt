use Rattle.std.proofs.Common.{◌≡◌, ◌≤◌, ◌∙◌, sym, ap, subst, List, map, reverse, take, length, arith}
use Rattle.std.proofs.lemmas.List.{take_all}
use Rattle.lego_inference.specs.declared.locals.Local.{Local}
use Rattle.lego_inference.proofs.LocalLemmas.{reversed_twice}
use Rattle.lego_inference.proofs.locals.Locals.binders.Goals as goal

pub returns : goal.returns
returns c =
    let items = c.deref-local-items.result.now in
    let all : length items ≤ c.loop-local.local-index = c.loop-local-test.false in
    c.loop-local.invariant
    ∙ ap (map (λ (x : Local). x.binder)) (take_all c.loop-local.local-index items all)
    ∙ ap (map (λ (x : Local). x.binder)) c.deref-local-items.ensures.value
    ∙ sym (reversed_twice (λ (x : Local). x.binder) c.self.inside.items.items)
    ∙ ap (λ (z : List Local). reverse (map (λ (x : Local). x.binder) z)) c.self.view_is
