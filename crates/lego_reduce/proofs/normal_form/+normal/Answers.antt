use Rattle.std.proofs.Common.{◌≡◌, ◌+◌, ◌≤◌, Some, refl, slice_get, sym, arith}
use Rattle.std.proofs.lemmas.Result.{err_from_is_err_and}
use Rattle.lego_term.specs.Trees.{Core, depth}
use Rattle.lego_term.specs.Numbered.{put_part}
use Rattle.lego_term.specs.Parts.{Branch, parts_of}
use Rattle.lego_term.specs.BodyMap.{bodies_in}
use Rattle.lego_reduce.proofs.ContextLemmas.{later, later_fault, making_fault}
use Rattle.lego_reduce.proofs.NormalLemmas.{after_head, head_fault, part_behind, part_ends}
use Rattle.lego_reduce.proofs.normal_form.+normal.Goals as goal

pub normal_within-returns-in_err-found-clause-end : goal.normal_within-returns-in_err-found-clause-end
normal_within-returns-in_err-found-clause-end t c =
    let e = err_from_is_err_and c.from_residual.result c.from_residual.ensures.1 in
    rw (e.1, e.2) (head_fault (bodies_in c.args.bodies.now) c.args.t.now c.args.limit c.args.nest c.in_err-found.field-0.0 c.in_err-found.ensures.end)

pub normal_within-returns-then-nest-depth-gt-MAX_DEPTH-clause-end : goal.normal_within-returns-then-nest-depth-gt-MAX_DEPTH-clause-end
normal_within-returns-then-nest-depth-gt-MAX_DEPTH-clause-end t c =
    let end = c.in_ok-found.ensures.end in
    let deep = c.if-nest-depth-gt-MAX_DEPTH.true in
    (after_head (bodies_in c.args.bodies.now) c.in_ok-found.found.steps c.args.t.now c.in_ok-found.found.term end.0.reaches, end.1, λ h. absurd (omega (arith, h)))

pub normal_within-returns-in_err-inner-clause-end : goal.normal_within-returns-in_err-inner-clause-end
normal_within-returns-in_err-inner-clause-end t c =
    let b = bodies_in c.args.bodies.now in
    let u : Core = c.in_ok-found.found.term in
    let i = c.in_ok-found.found.steps in
    let end = c.in_ok-found.ensures.end in
    let e = err_from_is_err_and c.from_residual-in_err-inner.result c.from_residual-in_err-inner.ensures.1 in
    rw (e.1, e.2) (later_fault b c.args.t.now u c.args.limit c.args.nest i c.in_err-inner.field-0.0 (after_head b i c.args.t.now u end.0.reaches) end.1 c.in_err-inner.ensures.end)

pub normal_within-returns-clause-end : goal.normal_within-returns-clause-end
normal_within-returns-clause-end t c =
    let b = bodies_in c.args.bodies.now in
    let u : Core = c.in_ok-found.found.term in
    let i = c.in_ok-found.found.steps in
    let end = c.in_ok-found.ensures.end in
    later b c.args.t.now u c.in_ok-inner.inner.term c.args.limit c.args.nest i c.in_ok-inner.inner.steps (after_head b i c.args.t.now u end.0.reaches) end.1 c.in_ok-inner.ensures.end

pub parts_from-returns-in_err-inner-clause-end : goal.parts_from-returns-in_err-inner-clause-end
parts_from-returns-in_err-inner-clause-end t c =
    let p : Branch = record { under = c.in-Some.part.under; term = c.in-Some.part.term.now } in
    let h : slice_get (parts_of c.args.t.now) c.args.number ≡ Some p = sym c.in-Some.ensures.part in
    let e = err_from_is_err_and c.from_residual-in_err-inner.result c.from_residual-in_err-inner.ensures.1 in
    rw (e.1, e.2) (part_ends (bodies_in c.args.bodies.now) c.args.t.now c.args.number p c.args.limit c.args.nest c.in_err-inner.field-0.0 h c.requires.stopped c.requires.before c.in_err-inner.ensures.end)

pub parts_from-returns-in_err-whole-clause-end : goal.parts_from-returns-in_err-whole-clause-end
parts_from-returns-in_err-whole-clause-end t c =
    let b = bodies_in c.args.bodies.now in
    let p : Branch = record { under = c.in-Some.part.under; term = c.in-Some.part.term.now } in
    let h : slice_get (parts_of c.args.t.now) c.args.number ≡ Some p = sym c.in-Some.ensures.part in
    let w = part_behind b c.args.t.now c.args.number p c.in_ok-inner.inner.term (put_part c.args.number c.in_ok-inner.inner.term c.args.t.now) c.args.limit c.args.nest c.in_ok-inner.inner.steps h c.requires.stopped c.requires.before c.in_ok-inner.ensures.end c.in_ok-inner.ensures.bound refl in
    let e = err_from_is_err_and c.from_residual-in_err-whole.result c.from_residual-in_err-whole.ensures.1 in
    rw (e.1, e.2) (making_fault b c.args.t.now _ c.args.limit c.args.nest c.in_ok-inner.inner.steps c.in_err-whole.field-0.0 w.there w.within c.in_err-whole.ensures)

pub parts_from-returns-then-nest-depth-gt-MAX_DEPTH-clause-end : goal.parts_from-returns-then-nest-depth-gt-MAX_DEPTH-clause-end
parts_from-returns-then-nest-depth-gt-MAX_DEPTH-clause-end t c =
    let b = bodies_in c.args.bodies.now in
    let p : Branch = record { under = c.in-Some.part.under; term = c.in-Some.part.term.now } in
    let h : slice_get (parts_of c.args.t.now) c.args.number ≡ Some p = sym c.in-Some.ensures.part in
    let w = part_behind b c.args.t.now c.args.number p c.in_ok-inner.inner.term c.in_ok-whole.whole c.args.limit c.args.nest c.in_ok-inner.inner.steps h c.requires.stopped c.requires.before c.in_ok-inner.ensures.end c.in_ok-inner.ensures.bound c.in_ok-whole.ensures.0 in
    let deep = c.if-nest-depth-gt-MAX_DEPTH.true in
    (w.there, w.within, λ d. absurd (omega (arith, d)))

pub parts_from-returns-then-nest-depth-gt-MAX_DEPTH-clause-bound : goal.parts_from-returns-then-nest-depth-gt-MAX_DEPTH-clause-bound
parts_from-returns-then-nest-depth-gt-MAX_DEPTH-clause-bound t c =
    let b = bodies_in c.args.bodies.now in
    let p : Branch = record { under = c.in-Some.part.under; term = c.in-Some.part.term.now } in
    let h : slice_get (parts_of c.args.t.now) c.args.number ≡ Some p = sym c.in-Some.ensures.part in
    let w = part_behind b c.args.t.now c.args.number p c.in_ok-inner.inner.term c.in_ok-whole.whole c.args.limit c.args.nest c.in_ok-inner.inner.steps h c.requires.stopped c.requires.before c.in_ok-inner.ensures.end c.in_ok-inner.ensures.bound c.in_ok-whole.ensures.0 in
    w.narrow

pub parts_from-parts_from-requires : goal.parts_from-parts_from-requires
parts_from-parts_from-requires t c =
    let b = bodies_in c.args.bodies.now in
    let p : Branch = record { under = c.in-Some.part.under; term = c.in-Some.part.term.now } in
    let h : slice_get (parts_of c.args.t.now) c.args.number ≡ Some p = sym c.in-Some.ensures.part in
    let w = part_behind b c.args.t.now c.args.number p c.in_ok-inner.inner.term c.in_ok-whole.whole c.args.limit c.args.nest c.in_ok-inner.inner.steps h c.requires.stopped c.requires.before c.in_ok-inner.ensures.end c.in_ok-inner.ensures.bound c.in_ok-whole.ensures.0 in
    let few = c.in-Some.ensures.few in let falls = c.decreases in let room = c.requires.room in let narrow = w.narrow in
    let fits : c.args.nest + depth c.in_ok-whole.whole ≤ 2000 = omega (arith, c.if-nest-depth-gt-MAX_DEPTH.false) in
    (omega (arith, few, falls), (omega (arith, room, narrow), (fits, (c.requires.closed, (w.stopped, w.before fits)))))

pub parts_from-returns-in_err-rest-clause-end : goal.parts_from-returns-in_err-rest-clause-end
parts_from-returns-in_err-rest-clause-end t c =
    let b = bodies_in c.args.bodies.now in
    let p : Branch = record { under = c.in-Some.part.under; term = c.in-Some.part.term.now } in
    let h : slice_get (parts_of c.args.t.now) c.args.number ≡ Some p = sym c.in-Some.ensures.part in
    let w = part_behind b c.args.t.now c.args.number p c.in_ok-inner.inner.term c.in_ok-whole.whole c.args.limit c.args.nest c.in_ok-inner.inner.steps h c.requires.stopped c.requires.before c.in_ok-inner.ensures.end c.in_ok-inner.ensures.bound c.in_ok-whole.ensures.0 in
    let e = err_from_is_err_and c.from_residual-in_err-rest.result c.from_residual-in_err-rest.ensures.1 in
    rw (e.1, e.2) (later_fault b c.args.t.now c.in_ok-whole.whole c.args.limit c.args.nest c.in_ok-inner.inner.steps c.in_err-rest.field-0.0 w.there w.within c.in_err-rest.ensures.end)

pub parts_from-returns-clause-end : goal.parts_from-returns-clause-end
parts_from-returns-clause-end t c =
    let b = bodies_in c.args.bodies.now in
    let p : Branch = record { under = c.in-Some.part.under; term = c.in-Some.part.term.now } in
    let h : slice_get (parts_of c.args.t.now) c.args.number ≡ Some p = sym c.in-Some.ensures.part in
    let w = part_behind b c.args.t.now c.args.number p c.in_ok-inner.inner.term c.in_ok-whole.whole c.args.limit c.args.nest c.in_ok-inner.inner.steps h c.requires.stopped c.requires.before c.in_ok-inner.ensures.end c.in_ok-inner.ensures.bound c.in_ok-whole.ensures.0 in
    later b c.args.t.now c.in_ok-whole.whole c.in_ok-rest.rest.term c.args.limit c.args.nest c.in_ok-inner.inner.steps c.in_ok-rest.rest.steps w.there w.within c.in_ok-rest.ensures.end

pub parts_from-returns-clause-bound : goal.parts_from-returns-clause-bound
parts_from-returns-clause-bound t c =
    let b = bodies_in c.args.bodies.now in
    let p : Branch = record { under = c.in-Some.part.under; term = c.in-Some.part.term.now } in
    let h : slice_get (parts_of c.args.t.now) c.args.number ≡ Some p = sym c.in-Some.ensures.part in
    let w = part_behind b c.args.t.now c.args.number p c.in_ok-inner.inner.term c.in_ok-whole.whole c.args.limit c.args.nest c.in_ok-inner.inner.steps h c.requires.stopped c.requires.before c.in_ok-inner.ensures.end c.in_ok-inner.ensures.bound c.in_ok-whole.ensures.0 in
    let narrow = w.narrow in let rest = c.in_ok-rest.ensures.bound in
    omega (arith, narrow, rest)
