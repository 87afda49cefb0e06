use Rattle.std.proofs.Common.{◌+◌, refl, arith}
use Rattle.std.proofs.lemmas.Result.{err_from_is_err_and}
use Rattle.lego_term.specs.BodyMap.{bodies_in}
use Rattle.lego_match.proofs.ScopeLemmas.{loose_normal}
use Rattle.lego_match.proofs.WalkLemmas.{decided_settles, left_end_fails, right_end_fails}
use Rattle.lego_match.proofs.walk.ends.Goals as goal

pub returns-then-at : goal.returns-then-at
returns-then-at c =
    let l = c.requires.left_normal c.if-at.true in
    let r = c.requires.right_normal c.if-at.true in
    let ld = l.1 in let rd = r.1 in let lb = c.requires.left in let rb = c.requires.right in
    decided_settles (bodies_in c.args.setting.now.bodies.now) c.args.a.now c.args.b.now c.args.a.now c.args.b.now c.args.at 0 0 0 (record { reaches = refl; last = l.0 }) (record { reaches = refl; last = r.0 }) refl (omega arith) (omega arith) (omega arith) c.decided.result c.decided.ensures

pub returns-in_err-left : goal.returns-in_err-left
returns-in_err-left c =
    let e = err_from_is_err_and c.from_residual.result c.from_residual.ensures.1 in
    rw (e.1, e.2) (left_end_fails (bodies_in c.args.setting.now.bodies.now) c.args.a.now c.args.b.now c.args.at c.in_err-left.field-0.0 c.if-at.false c.in_err-left.ensures)

pub returns-in_err-right : goal.returns-in_err-right
returns-in_err-right c =
    let e = err_from_is_err_and c.from_residual-in_err-right.result c.from_residual-in_err-right.ensures.1 in
    rw (e.1, e.2) (right_end_fails (bodies_in c.args.setting.now.bodies.now) c.args.a.now c.args.b.now c.in_ok-left.left.term c.args.at c.in_ok-left.left.steps c.in_err-right.field-0.0 c.if-at.false c.in_ok-left.ensures.0.reaches c.in_ok-left.ensures.1 c.in_err-right.ensures)

pub returns : goal.returns
returns c =
    let l = c.in_ok-left.ensures in
    let r = c.in_ok-right.ensures in
    let lw = l.1 in
    let rw' = r.1 in
    let ll = loose_normal c.args.setting.now.bodies.now c.requires.closed c.in_ok-left.left.steps c.args.a.now c.in_ok-left.left.term l.0.reaches in
    let rl = loose_normal c.args.setting.now.bodies.now c.requires.closed c.in_ok-right.right.steps c.args.b.now c.in_ok-right.right.term r.0.reaches in
    let lb = c.requires.left in let rb = c.requires.right in
    let ld = c.if-depth-at.false in let rd = c.if-depth-at-2.false in
    let le = c.depth.ensures.exact in let re = c.depth-else-depth-at.ensures.exact in
    decided_settles (bodies_in c.args.setting.now.bodies.now) c.args.a.now c.args.b.now c.in_ok-left.left.term c.in_ok-right.right.term c.args.at c.in_ok-left.left.steps c.in_ok-right.right.steps (c.in_ok-left.left.steps + c.in_ok-right.right.steps) l.0 r.0 refl (omega arith) (omega arith) (omega arith) c.decided-2.result c.decided-2.ensures
