use Rattle.std.proofs.Common.{◌≡◌, ◌+◌, ◌-◌, ◌≤◌, ◌<◌, true, List, Ok, Err, ap, sym, ◌∙◌, subst, arith}
use Rattle.lego_term.specs.declared.binder.Binder.{Binder}
use Rattle.lego_term.specs.Numbered.{branch_of}
use Rattle.std.proofs.lemmas.Result.{err_from_is_err_and}
use Rattle.std.specs.Ordering.{nat_cmp}
use Rattle.std.specs.BTreeMap.{get}
use Rattle.lego_term.specs.BodyMap.{bodies_in}
use Rattle.lego_match.specs.private.Walks.{IsNormal, PartWalks, PartsWalk}
use Rattle.lego_term.specs.Trees.{depth}
use Rattle.lego_match.proofs.PartLemmas.{part_head, part_normal, same_at_head, in_part, behind_part, both_pass, none_left, one_more, all_before, all_before_right}
use Rattle.lego_match.specs.declared.walk.Position.{Position}
use Rattle.lego_match.proofs.FormLemmas.{end_is_head}
use Rattle.lego_match.proofs.WalkLemmas.{settled, through_parts, equal_passes, inner_passes, inner_stops, left_stops, right_stops}
use Rattle.lego_match.proofs.walk.+walk.Goals.{parts_from-in_default-via-in-Some+in_default, parts_from-in_default-via-in_default}
use Rattle.lego_match.proofs.walk.+walk.Goals as goal

pub walk-returns-then-equal_but_levels : goal.walk-returns-then-equal_but_levels
walk-returns-then-equal_but_levels t c = equal_passes (bodies_in c.args.setting.now.bodies.now) (get nat_cmp c.args.setting.now.free.now) c.args.a.now c.args.b.now c.args.at c.args.deeper.now.items (c.equal_but_levels.ensures.0 c.if-equal_but_levels.true)

pub walk-returns-in_err-left : goal.walk-returns-in_err-left
walk-returns-in_err-left t c =
    let e = err_from_is_err_and c.from_residual.result c.from_residual.ensures.1 in
    rw (e.1, e.2) (left_stops (bodies_in c.args.setting.now.bodies.now) (get nat_cmp c.args.setting.now.free.now) c.args.a.now c.args.b.now c.args.at c.args.deeper.now.items c.in_err-left.field-0.0 c.if-at.false c.in_err-left.ensures.head)

pub walk-returns-in_err-right : goal.walk-returns-in_err-right
walk-returns-in_err-right t c =
    let e = err_from_is_err_and c.from_residual-in_err-right.result c.from_residual-in_err-right.ensures.1 in
    rw (e.1, e.2) (right_stops (bodies_in c.args.setting.now.bodies.now) (get nat_cmp c.args.setting.now.free.now) c.args.a.now c.args.b.now c.in_ok-left.left.term c.in_ok-left.left.steps c.args.at c.args.deeper.now.items c.in_err-right.field-0.0 c.if-at.false c.in_ok-left.ensures.head.0.reaches c.in_ok-left.ensures.head.1 c.in_err-right.ensures.head)

pub walk-returns-in_err-inner : goal.walk-returns-in_err-inner
walk-returns-in_err-inner t c =
    let e = err_from_is_err_and c.from_residual-in_err-inner.result c.from_residual-in_err-inner.ensures.1 in
    let l = c.in_ok-left.ensures.head in
    let r = c.in_ok-right.ensures.head in
    let lw = l.1 in
    let rw' = r.1 in
    rw (e.1, e.2) (inner_stops (bodies_in c.args.setting.now.bodies.now) (get nat_cmp c.args.setting.now.free.now) c.args.a.now c.args.b.now c.in_ok-left.left.term c.in_ok-right.right.term c.in_ok-left.left.steps c.in_ok-right.right.steps c.args.at c.args.deeper.now.items _ c.in_err-inner.field-0.0 l.0.reaches r.0.reaches (omega arith) c.in_err-inner.ensures)

pub walk-returns : goal.walk-returns
walk-returns t c =
    let l = c.in_ok-left.ensures.head in
    let r = c.in_ok-right.ensures.head in
    let lw = l.1 in
    let rw' = r.1 in
    inner_passes (bodies_in c.args.setting.now.bodies.now) (get nat_cmp c.args.setting.now.free.now) c.args.a.now c.args.b.now c.in_ok-left.left.term c.in_ok-right.right.term c.in_ok-left.left.steps c.in_ok-right.right.steps c.in_ok-inner.inner c.args.at c.args.deeper.now.items _ l.0.reaches r.0.reaches (omega arith) l.0.last r.0.last c.in_ok-inner.ensures

pub forms-returns-then-goes_on : goal.forms-returns-then-goes_on
forms-returns-then-goes_on t c =
    let g = c.goes_on.ensures.yes c.if-goes_on.true in
    through_parts (bodies_in c.args.setting.now.bodies.now) (get nat_cmp c.args.setting.now.free.now) c.args.a.now c.args.b.now c.args.at c.args.deeper.now.items c.parts_from.new.deeper.items c.parts_from.result c.requires.left_stuck c.requires.right_stuck g.2 c.parts_from.ensures

pub forms-returns : goal.forms-returns
forms-returns t c =
    settled (bodies_in c.args.setting.now.bodies.now) (get nat_cmp c.args.setting.now.free.now) c.args.a.now c.args.b.now c.args.at c.args.deeper.now.items c.ends.result c.requires.left_stuck c.requires.right_stuck (c.goes_on.ensures.no c.if-goes_on.false) c.ends.ensures

pub parts_from-walk_part-requires : goal.parts_from-walk_part-requires
parts_from-walk_part-requires t c =
    let b = bodies_in c.args.setting.now.bodies.now in
    let free = get nat_cmp c.args.setting.now.free.now in
    let room : c.inside-inside.result.room ≡ c.args.at.room - 1 = ap (λ (z : Position). z.room) c.inside-inside.ensures in
    let few = c.in-Some-Some.ensures.few in let falls = c.decreases in let goes_on = c.requires.goes_on in let path = c.requires.path in
    let left = c.requires.left in let right = c.requires.right in let l = c.in-Some-Some.ensures.bound in let r = c.in-Some-Some.ensures'.bound in
    let x = sym c.in-Some-Some.ensures.part in
    let y = sym c.in-Some-Some.ensures'.part in
    let at_head = λ (h : c.inside-inside.result.are_head_forms ≡ true). subst (λ (z : Position). z.are_head_forms ≡ true) c.inside-inside.ensures h in
    let normal = λ (h : c.inside-inside.result.are_normal ≡ true). subst (λ (z : Position). z.are_normal ≡ true) c.inside-inside.ensures h in (
      omega (arith, room, few, falls, goes_on),
      (
        omega (arith, room, goes_on, left, l),
        (
          omega (arith, room, goes_on, right, r),
          (
            omega (arith, room, path),
            (
              c.requires.closed,
              (
                λ h. part_head b free c.args.a.now c.args.number _ c.args.at (at_head h) c.requires.left_stuck c.requires.left_head x,
                (
                  λ h. part_head b free c.args.b.now c.args.number _ c.args.at (sym (same_at_head b c.args.a.now c.args.b.now c.args.number c.requires.one_form) ∙ at_head h) c.requires.right_stuck c.requires.right_head y,
                  (
                    λ h. subst (λ z. IsNormal b c.in-Some-Some.left.term.now × (depth c.in-Some-Some.left.term.now < z)) (sym room) (part_normal b free c.args.a.now c.args.number _ c.args.at (c.requires.left_normal (normal h)) c.in-Some-Some.ensures.above x),
                    λ h. subst (λ z. IsNormal b c.in-Some-Some.right.term.now × (depth c.in-Some-Some.right.term.now < z)) (sym room) (part_normal b free c.args.b.now c.args.number _ c.args.at (c.requires.right_normal (normal h)) c.in-Some-Some.ensures'.above y),
                  ),
                ),
              ),
            ),
          ),
        ),
      ),
    )

pub parts_from-returns-in_err-steps : goal.parts_from-returns-in_err-steps
parts_from-returns-in_err-steps t c =
    let b = bodies_in c.args.setting.now.bodies.now in
    let free = get nat_cmp c.args.setting.now.free.now in
    let e = err_from_is_err_and c.from_residual.result c.from_residual.ensures.1 in
    let w = subst (λ (z : Position). PartWalks b free c.in-Some-Some.left.under c.in-Some-Some.left.term.now c.in-Some-Some.right.term.now z c.args.deeper.now.items c.walk_part.new.deeper.items (Err c.in_err-steps.field-0.0)) c.inside-inside.ensures c.in_err-steps.ensures in
    rw (e.1, e.2) (in_part b free c.args.a.now c.args.b.now c.args.number (branch_of c.in-Some-Some.left) (branch_of c.in-Some-Some.right) c.args.at c.args.deeper.now.items c.walk_part.new.deeper.items c.in_err-steps.field-0.0 c.requires.goes_on c.requires.left_stuck c.requires.right_stuck c.requires.left_head c.requires.right_head
    c.requires.one_form (sym c.in-Some-Some.ensures.part) (sym c.in-Some-Some.ensures'.part) c.requires.before w)

pub parts_from-parts_from-requires : goal.parts_from-parts_from-requires
parts_from-parts_from-requires t c =
    let b = bodies_in c.args.setting.now.bodies.now in
    let w = c.in_ok-steps.ensures in
    let few = c.in-Some-Some.ensures.few in let falls = c.decreases in (
      omega (arith, few, falls),
      (
        c.requires.left,
        (
          c.requires.right,
          (
            c.requires.path,
            (
              c.requires.goes_on,
              (
                c.requires.closed,
                (
                  c.requires.left_stuck,
                  (
                    c.requires.right_stuck,
                    (
                      c.requires.left_head,
                      (
                        c.requires.right_head,
                        (
                          c.requires.left_normal,
                          (
                            c.requires.right_normal,
                            (
                              c.requires.one_form,
                              one_more b c.args.a.now c.args.b.now c.args.number (c.args.number + 1) (branch_of c.in-Some-Some.left) (branch_of c.in-Some-Some.right) (omega arith) c.requires.before (sym c.in-Some-Some.ensures.part) (sym c.in-Some-Some.ensures'.part) w.agreed,
                            ),
                          ),
                        ),
                      ),
                    ),
                  ),
                ),
              ),
            ),
          ),
        ),
      ),
    )

pub parts_from-returns-in_err-more : goal.parts_from-returns-in_err-more
parts_from-returns-in_err-more t c =
    let b = bodies_in c.args.setting.now.bodies.now in
    let free = get nat_cmp c.args.setting.now.free.now in
    let e = err_from_is_err_and c.from_residual-in_err-more.result c.from_residual-in_err-more.ensures.1 in
    let w = c.in_ok-steps.ensures in
    let le = subst (λ (z : Position). c.in_ok-steps.steps ≤ z.limit) c.inside-inside.ensures w.within in
    rw (e.1, e.2) (behind_part b free c.args.a.now c.args.b.now c.args.number (c.args.number + 1) w.left w.right c.in_ok-steps.steps (branch_of c.in-Some-Some.left) (branch_of c.in-Some-Some.right) c.args.at c.args.deeper.now.items c.parts_from.new.deeper.items c.in_err-more.field-0.0
    (sym c.in-Some-Some.ensures.part) (sym c.in-Some-Some.ensures'.part) w.left_has w.right_has (omega arith) w.sum le
    (subst (λ (z : List Binder). PartsWalk b free c.args.a.now c.args.b.now (c.args.number + 1) (record c.args.at { limit = c.args.at.limit - c.in_ok-steps.steps }) z c.parts_from.new.deeper.items (Err c.in_err-more.field-0.0)) w.kept c.in_err-more.ensures))

pub parts_from-returns : goal.parts_from-returns
parts_from-returns t c =
    let b = bodies_in c.args.setting.now.bodies.now in
    let free = get nat_cmp c.args.setting.now.free.now in
    let w = c.in_ok-steps.ensures in
    let le = subst (λ (z : Position). c.in_ok-steps.steps ≤ z.limit) c.inside-inside.ensures w.within in
    both_pass b free c.args.a.now c.args.b.now c.args.number (c.args.number + 1) w.left w.right c.in_ok-steps.steps c.in_ok-more.more (branch_of c.in-Some-Some.left) (branch_of c.in-Some-Some.right) c.args.at c.args.deeper.now.items c.parts_from.new.deeper.items
    (sym c.in-Some-Some.ensures.part) (sym c.in-Some-Some.ensures'.part) w.left_has w.right_has (omega arith) w.sum le
    (subst (λ (z : List Binder). PartsWalk b free c.args.a.now c.args.b.now (c.args.number + 1) (record c.args.at { limit = c.args.at.limit - c.in_ok-steps.steps }) z c.parts_from.new.deeper.items (Ok c.in_ok-more.more)) w.kept c.in_ok-more.ensures)

pub parts_from-returns-in_default : goal.parts_from-returns-in_default
parts_from-returns-in_default t c =
    let b = bodies_in c.args.setting.now.bodies.now in
    let free = get nat_cmp c.args.setting.now.free.now in
    elim c.in_default.branch [
      | parts_from-in_default-via-in-Some+in_default w ↦
          none_left b free c.args.a.now c.args.b.now c.args.number c.args.at c.args.deeper.now.items (all_before_right b c.args.a.now c.args.b.now c.args.number c.requires.before (sym w.in_default.ensures'.part))
      | parts_from-in_default-via-in_default w ↦
          none_left b free c.args.a.now c.args.b.now c.args.number c.args.at c.args.deeper.now.items (all_before b c.args.a.now c.args.b.now c.args.number c.requires.before (sym w.in_default.ensures.part))
    ]

pub walk-forms-requires : goal.walk-forms-requires
walk-forms-requires t c =
    let b = bodies_in c.args.setting.now.bodies.now in
    let falls = c.decreases in
    let room = c.if-at-eq0.false in (
      omega (arith, falls),
      (
        c.requires.left,
        (
          c.requires.right,
          (
            c.requires.path,
            (
              omega (arith, room),
              (
                c.requires.closed,
                (
                  end_is_head b c.args.a.now (c.requires.left_normal c.if-at.true).0,
                  (
                    end_is_head b c.args.b.now (c.requires.right_normal c.if-at.true).0,
                    (λ h. (c.requires.left_head h).1, (λ h. (c.requires.right_head h).1, (c.requires.left_normal, c.requires.right_normal))),
                  ),
                ),
              ),
            ),
          ),
        ),
      ),
    )
