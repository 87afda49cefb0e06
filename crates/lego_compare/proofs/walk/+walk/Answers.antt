use Rattle.std.proofs.Common.{◌≡◌, ◌≤◌, ◌-◌, true, ap, sym, ◌∙◌, subst, arith}
use Rattle.std.proofs.lemmas.List.{append-nil}
use Rattle.std.proofs.lemmas.Result.{err_from_is_err_and}
use Rattle.lego_term.specs.BodyMap.{bodies_in}
use Rattle.lego_laws.specs.Counting.{Walked}
use Rattle.lego_compare.specs.declared.walk.Position.{Position}
use Rattle.lego_compare.specs.private.Codes.{order_of}
use Rattle.lego_compare.specs.Paths.{Leads}
use Rattle.lego_compare.specs.private.Walks.{Differ, StopsBy, Passed}
use Rattle.lego_compare.proofs.StepLemmas.{in_part, behind_part, both_pass}
use Rattle.lego_laws.specs.Comparison.{Compared}
use Rattle.lego_compare.proofs.WalkLemmas.{no_room, left_stops, right_stops, inner_stops, inner_passes, equal_passes}
use Rattle.lego_compare.proofs.HeadLemmas.{both_at_head, heads_walk}
use Rattle.lego_compare.proofs.RootLemmas.{apart_stops}
use Rattle.lego_compare.proofs.AlikeLemmas.{forms_pass}
use Rattle.lego_compare.proofs.EndLemmas.{universes_pass, left_ends, right_ends}
use Rattle.lego_compare.proofs.walk.+walk.Goals.{parts_from-in_default-via-in-Some+in_default, parts_from-in_default-via-in_default}
use Rattle.lego_compare.proofs.walk.+walk.Goals as goal

pub different-returns-then-at-eq0 : goal.different-returns-then-at-eq0
different-returns-then-at-eq0 t c = no_room (bodies_in c.args.setting.now.bodies.now) (order_of c.args.at.relation) c.args.a.now c.args.b.now c.requires.differ c.args.at.room (let q = c.if-at-eq0.true in omega arith)

pub different-returns-in_err-left : goal.different-returns-in_err-left
different-returns-in_err-left t c =
    let e = err_from_is_err_and c.from_residual.result c.from_residual.ensures.1 in
    rw (e.1, e.2) (left_stops (bodies_in c.args.setting.now.bodies.now) (order_of c.args.at.relation) c.args.a.now c.args.b.now c.requires.differ c.args.at.limit c.args.at.room c.args.at.deeper c.in_err-left.field-0.0 c.in_err-left.ensures.head)

pub different-returns-in_err-right : goal.different-returns-in_err-right
different-returns-in_err-right t c =
    let e = err_from_is_err_and c.from_residual-in_err-right.result c.from_residual-in_err-right.ensures.1 in
    rw (e.1, e.2) (right_stops (bodies_in c.args.setting.now.bodies.now) (order_of c.args.at.relation) c.args.a.now c.args.b.now c.requires.differ c.args.at.limit c.args.at.room c.args.at.deeper c.in_ok-left.left.steps c.in_ok-left.left.term c.in_err-right.field-0.0 c.in_ok-left.ensures.head.0 c.in_ok-left.ensures.head.1 c.in_err-right.ensures.head)

pub different-returns-in_err-inner : goal.different-returns-in_err-inner
different-returns-in_err-inner t c =
    let e = err_from_is_err_and c.from_residual-in_err-inner.result c.from_residual-in_err-inner.ensures.1 in
    let l = c.in_ok-left.ensures.head in
    let r = c.in_ok-right.ensures.head in
    let lw = l.1 in
    let rw' = r.1 in
    rw (e.1, e.2) (inner_stops (bodies_in c.args.setting.now.bodies.now) (order_of c.args.at.relation) c.args.a.now c.args.b.now c.requires.differ c.in_ok-left.left.steps c.in_ok-right.right.steps c.in_ok-left.left.term c.in_ok-right.right.term l.0 r.0 c.args.at.limit c.args.at.room c.args.at.deeper c.in_err-inner.field-0.0 (omega arith) c.in_err-inner.ensures)

pub forms-returns-in-Apart : goal.forms-returns-in-Apart
forms-returns-in-Apart t c = apart_stops (bodies_in c.args.setting.now.bodies.now) c.args.at.relation c.args.a.now c.args.b.now c.args.at.limit c.args.at.room c.args.at.deeper c.differing.result c.requires.left_head (sym c.compare_roots.ensures ∙ c.in-Apart.is) c.differing.ensures

pub part-returns-then-equal : goal.part-returns-then-equal
part-returns-then-equal t c = equal_passes (bodies_in c.args.setting.now.bodies.now) (order_of c.args.at.relation) c.args.a.now c.args.b.now c.args.at.limit c.args.setting.now.place c.args.found.now.items (sym (append-nil c.args.found.now.items)) (c.equal.ensures.0 c.if-equal.true)

pub parts_from-part-requires : goal.parts_from-part-requires
parts_from-part-requires t c =
    let room : c.inside-inside.result.room ≡ c.args.at.room - 1 = ap (λ (z : Position). z.room) c.inside-inside.ensures.is in
    let few = c.in-Some-Some.ensures.few in let falls = c.decreases in let goes_on = c.requires.goes_on in
    let left = c.requires.left in let right = c.requires.right in let l = c.in-Some-Some.ensures.bound in let r = c.in-Some-Some.ensures'.bound in
    let heads = λ (h : c.inside-inside.result.are_head_forms ≡ true). both_at_head (bodies_in c.args.setting.now.bodies.now) c.args.a.now c.args.b.now c.args.number c.in-Some-Some.left.now c.in-Some-Some.right.now c.requires.one_form c.requires.left_head c.requires.right_head c.in-Some-Some.ensures.part c.in-Some-Some.ensures'.part (subst (λ (z : Position). z.are_head_forms ≡ true) c.inside-inside.ensures.is h) in
    (omega (arith, room, few, falls, goes_on), (omega (arith, room, goes_on, left, l), (omega (arith, room, goes_on, right, r), (c.inside-inside.ensures.path, (c.requires.closed, heads)))))

pub parts_from-returns-in_err-steps : goal.parts_from-returns-in_err-steps
parts_from-returns-in_err-steps t c =
    let e = err_from_is_err_and c.from_residual.result c.from_residual.ensures.1 in
    let w = subst (λ (z : Position). StopsBy (Differ (bodies_in c.args.setting.now.bodies.now) (order_of z.relation) c.in-Some-Some.left.now c.in-Some-Some.right.now) (Walked (bodies_in c.args.setting.now.bodies.now) c.in-Some-Some.left.now c.in-Some-Some.right.now) (Leads (bodies_in c.args.setting.now.bodies.now) c.in-Some-Some.left.now) (Leads (bodies_in c.args.setting.now.bodies.now) c.in-Some-Some.right.now) z.limit z.room z.deeper c.in_err-steps.field-0.0) c.inside-inside.ensures.is c.in_err-steps.ensures in
    rw (e.1, e.2) (in_part (bodies_in c.args.setting.now.bodies.now) c.args.at.relation c.args.a.now c.args.b.now c.in-Some-Some.left.now c.in-Some-Some.right.now c.args.number c.args.at.limit c.args.at.room c.args.at.deeper c.args.setting.now.place c.args.found.now.items c.part.new.found.items c.in_err-steps.field-0.0 c.requires.goes_on c.requires.one_form c.in-Some-Some.ensures.part c.in-Some-Some.ensures'.part w)

pub parts_from-returns-in_err-more : goal.parts_from-returns-in_err-more
parts_from-returns-in_err-more t c =
    let e = err_from_is_err_and c.from_residual-in_err-more.result c.from_residual-in_err-more.ensures.1 in
    let w = c.in_ok-steps.ensures in
    let le = subst (λ (z : Position). c.in_ok-steps.steps ≤ z.limit) c.inside-inside.ensures.is w.within in
    rw (e.1, e.2) (behind_part (bodies_in c.args.setting.now.bodies.now) c.args.at.relation c.args.a.now c.args.b.now c.in-Some-Some.left.now c.in-Some-Some.right.now c.args.number c.args.at.limit c.args.at.room c.args.at.deeper w.left w.right c.in_ok-steps.steps c.args.setting.now.place c.args.found.now.items c.args.found.now.items c.args.found.now.items c.in_err-more.field-0.0 c.in-Some-Some.ensures.part c.in-Some-Some.ensures'.part w.walked w.sum le c.in_err-more.ensures)

pub parts_from-returns : goal.parts_from-returns
parts_from-returns t c =
    let w = subst (λ (z : Position). Passed (Walked (bodies_in c.args.setting.now.bodies.now) c.in-Some-Some.left.now c.in-Some-Some.right.now) (Compared (bodies_in c.args.setting.now.bodies.now) (order_of z.relation) c.in-Some-Some.left.now c.in-Some-Some.right.now) z.limit c.args.setting.now.place c.in-Some-Some.left.now c.in-Some-Some.right.now (bodies_in c.args.setting.now.bodies.now) c.args.found.now.items c.part.new.found.items c.in_ok-steps.steps) c.inside-inside.ensures.is c.in_ok-steps.ensures in
    both_pass (bodies_in c.args.setting.now.bodies.now) c.args.at.relation c.args.a.now c.args.b.now c.in-Some-Some.left.now c.in-Some-Some.right.now c.args.number c.args.at.limit c.in_ok-steps.steps c.in_ok-more.more c.args.setting.now.place c.args.found.now.items c.part.new.found.items c.parts_from.new.found.items c.in-Some-Some.ensures.part c.in-Some-Some.ensures'.part w c.in_ok-more.ensures

pub different-returns-then-at : goal.different-returns-then-at
different-returns-then-at t c = heads_walk (bodies_in c.args.setting.now.bodies.now) c.args.at.relation c.args.a.now c.args.b.now c.args.at.limit c.args.at.room c.args.at.deeper c.args.setting.now.place c.args.found.now.items c.forms.new.found.items c.forms.result c.requires.differ (c.requires.heads c.if-at.true) c.forms.ensures

pub forms-returns-in-Alike : goal.forms-returns-in-Alike
forms-returns-in-Alike t c = forms_pass (bodies_in c.args.setting.now.bodies.now) c.args.at.relation c.args.a.now c.args.b.now c.args.at.limit c.args.at.room c.args.at.deeper c.args.setting.now.place c.args.found.now.items c.parts_from.new.found.items c.parts_from.result (sym c.compare_roots.ensures ∙ c.in-Alike.is) c.parts_from.ensures

pub different-returns : goal.different-returns
different-returns t c =
    let b = bodies_in c.args.setting.now.bodies.now in
    let l = c.in_ok-left.ensures.head in
    let r = c.in_ok-right.ensures.head in
    let lw = l.1 in
    let rl = r.1 in
    inner_passes b (order_of c.args.at.relation) c.args.a.now c.args.b.now c.requires.differ c.in_ok-left.left.steps c.in_ok-right.right.steps c.in_ok-left.left.term c.in_ok-right.right.term l.0 r.0
    c.args.at.limit c.in_ok-inner.inner c.args.setting.now.place c.args.found.now.items c.forms-2.new.found.items (omega arith)
    c.in_ok-inner.ensures

pub forms-returns-in_ok-ask-in-Universes : goal.forms-returns-in_ok-ask-in-Universes
forms-returns-in_ok-ask-in-Universes t c =
    universes_pass (bodies_in c.args.setting.now.bodies.now) c.args.at.relation c.args.a.now c.args.b.now c.in-Universes.low c.in-Universes.high c.args.at.limit c.args.at.room c.args.at.deeper c.args.setting.now.place c.args.found.now.items c.ask.new.found.items
    (sym c.compare_roots.ensures ∙ c.in-Universes.is) c.in_ok-ask-in-Universes.ensures

pub parts_from-returns-in_default : goal.parts_from-returns-in_default
parts_from-returns-in_default t c =
    elim c.in_default.branch [
      | parts_from-in_default-via-in-Some+in_default w ↦
          right_ends (bodies_in c.args.setting.now.bodies.now) c.args.at.relation c.args.a.now c.args.b.now c.args.number c.args.at.limit c.args.at.room c.args.at.deeper c.args.setting.now.place c.args.found.now.items c.requires.one_form w.in_default.ensures'.part
      | parts_from-in_default-via-in_default w ↦
          left_ends (bodies_in c.args.setting.now.bodies.now) c.args.at.relation c.args.a.now c.args.b.now c.args.number c.args.at.limit c.args.at.room c.args.at.deeper c.args.setting.now.place c.args.found.now.items c.requires.one_form w.in_default.ensures.part
    ]
