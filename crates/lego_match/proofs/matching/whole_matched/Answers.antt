use Rattle.std.proofs.Common.{arith}
use Rattle.std.proofs.lemmas.Result.{err_from_is_err_and}
use Rattle.std.specs.Ordering.{nat_cmp}
use Rattle.std.specs.BTreeMap.{get}
use Rattle.lego_term.specs.BodyMap.{bodies_in}
use Rattle.lego_match.proofs.ScopeLemmas.{loose_normal}
use Rattle.lego_match.proofs.VerdictLemmas.{left_refused, right_refused, normal_answer}
use Rattle.lego_match.proofs.matching.whole_matched.Goals as goal

pub returns-in_err-left : goal.returns-in_err-left
returns-in_err-left c =
    let e = err_from_is_err_and c.from_residual.result c.from_residual.ensures.1 in
    rw (e.1, e.2) (left_refused (bodies_in c.args.setting.now.bodies.now) (get nat_cmp c.args.setting.now.free.now) c.args.depth c.args.limit c.args.a.now c.args.b.now c.in_err-left.field-0.0 c.in_err-left.ensures)

pub returns-in_err-right : goal.returns-in_err-right
returns-in_err-right c =
    let e = err_from_is_err_and c.from_residual-in_err-right.result c.from_residual-in_err-right.ensures.1 in
    rw (e.1, e.2) (right_refused (bodies_in c.args.setting.now.bodies.now) (get nat_cmp c.args.setting.now.free.now) c.args.depth c.args.limit c.in_ok-left.left.steps c.args.a.now c.args.b.now c.in_ok-left.left.term c.in_err-right.field-0.0 c.in_ok-left.ensures.0.reaches c.in_ok-left.ensures.1 c.in_err-right.ensures)

pub normal_matched-requires-clause-left : goal.normal_matched-requires-clause-left
normal_matched-requires-clause-left c =
    let l = loose_normal c.args.setting.now.bodies.now c.requires.closed c.in_ok-left.left.steps c.args.a.now c.in_ok-left.left.term c.in_ok-left.ensures.0.reaches in let n = c.requires.left in omega (arith, l, n)

pub normal_matched-requires-clause-right : goal.normal_matched-requires-clause-right
normal_matched-requires-clause-right c =
    let l = loose_normal c.args.setting.now.bodies.now c.requires.closed c.in_ok-right.right.steps c.args.b.now c.in_ok-right.right.term c.in_ok-right.ensures.0.reaches in let n = c.requires.right in omega (arith, l, n)

pub normal_matched-requires-clause-left_scoped : goal.normal_matched-requires-clause-left_scoped
normal_matched-requires-clause-left_scoped c =
    let l = loose_normal c.args.setting.now.bodies.now c.requires.closed c.in_ok-left.left.steps c.args.a.now c.in_ok-left.left.term c.in_ok-left.ensures.0.reaches in let n = c.requires.left_scoped in omega (arith, l, n)

pub normal_matched-requires-clause-right_scoped : goal.normal_matched-requires-clause-right_scoped
normal_matched-requires-clause-right_scoped c =
    let l = loose_normal c.args.setting.now.bodies.now c.requires.closed c.in_ok-right.right.steps c.args.b.now c.in_ok-right.right.term c.in_ok-right.ensures.0.reaches in let n = c.requires.right_scoped in omega (arith, l, n)

pub returns : goal.returns
returns c =
    normal_answer (bodies_in c.args.setting.now.bodies.now) (get nat_cmp c.args.setting.now.free.now) c.args.depth c.args.limit c.args.a.now c.args.b.now c.in_ok-left.left.term c.in_ok-right.right.term c.normal_matched.result
    (c.in_ok-left.left.steps, c.in_ok-left.ensures.0) (c.in_ok-right.right.steps, c.in_ok-right.ensures.0) c.normal_matched.ensures
