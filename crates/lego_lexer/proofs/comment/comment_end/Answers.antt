use Rattle.std.proofs.Common.{◌≡◌, ◌-◌, drop, sym, ◌∙◌, arith, length-drop}
use Rattle.lego_lexer.proofs.CommentLemmas.{opened_at, closed_at, passed_at, too_short}
use Rattle.lego_lexer.proofs.comment.comment_end.Goals as goal

pub loop-at-preserved-in-Opens : goal.loop-at-preserved-in-Opens
loop-at-preserved-in-Opens c = record {
  passed = omega arith;
  within = omega arith;
  some = omega arith;
  few = omega arith;
  same = opened_at c.args.bytes.now c.loop-at.depth c.loop-at.at c.loop-at-test.true c.loop-at.invariant.some c.in-Opens.ensures ∙ c.loop-at.invariant.same;
}

pub loop-at-preserved-else-depth-eq0 : goal.loop-at-preserved-else-depth-eq0
loop-at-preserved-else-depth-eq0 c = record {
  passed = omega arith;
  within = omega arith;
  some = omega arith;
  few = omega arith;
  same = closed_at c.args.bytes.now c.loop-at.depth c.loop-at.at c.loop-at-test.true c.loop-at.invariant.some c.in-Closes.ensures ∙ c.loop-at.invariant.same;
}

pub loop-at-preserved : goal.loop-at-preserved
loop-at-preserved c = record {
  passed = omega arith;
  within = omega arith;
  some = omega arith;
  few = omega arith;
  same = passed_at c.args.bytes.now c.loop-at.depth c.loop-at.at c.loop-at-test.true c.loop-at.invariant.some c.in-Neither.ensures ∙ c.loop-at.invariant.same;
}

pub returns-then-depth-eq0-clause-ends : goal.returns-then-depth-eq0-clause-ends
returns-then-depth-eq0-clause-ends c =
    let last : c.loop-at.depth - 1 ≡ 0 = c.if-depth-eq0.true in
    let ends = closed_at c.args.bytes.now c.loop-at.depth c.loop-at.at c.loop-at-test.true c.loop-at.invariant.some c.in-Closes.ensures ∙ c.loop-at.invariant.same in
    sym (rw last at ends)

pub returns-clause-ends : goal.returns-clause-ends
returns-clause-ends c =
    sym c.loop-at.invariant.same ∙ too_short c.loop-at.depth (drop c.loop-at.at c.args.bytes.now) c.loop-at.invariant.some (omega (arith, length-drop c.loop-at.at c.args.bytes.now))
