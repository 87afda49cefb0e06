use Rattle.std.proofs.Common.{◌+◌, ◌<◌, sym, ◌∙◌, arith}
use Rattle.lego_lexer.proofs.GapLemmas.{gap_past_blank, gap_past_comment, gap_so_far, gap_to_end, token_there}
use Rattle.lego_lexer.proofs.CommentLemmas.{open_there}
use Rattle.lego_lexer.proofs.comment.gap_end.Goals as goal

pub loop-at-preserved-then-is_blank : goal.loop-at-preserved-then-is_blank
loop-at-preserved-then-is_blank c = record {
  passed = omega arith;
  within = omega arith;
  gap = λ u h m g. c.loop-at.invariant.gap u (omega arith) m (gap_past_blank c.args.bytes.now c.loop-at.at u (omega arith) c.loop-at-test.true (sym c.if-is_blank.true ∙ c.is_blank.ensures) g);
}

pub loop-at-preserved : goal.loop-at-preserved
loop-at-preserved c = record {
  passed = omega (arith, c.in-Some.ensures.within);
  within = omega (arith, c.in-Some.ensures.within);
  gap = λ u h m g.
      let far : c.loop-at.at + 2 < c.in-Some.end = c.in-Some.ensures.within.0 in
      c.loop-at.invariant.gap u (omega arith) m (
      gap_past_comment c.args.bytes.now c.loop-at.at c.in-Some.end u c.loop-at-test.true far h (sym c.if-begins_comment.true ∙ c.begins_comment.ensures) c.in-Some.ensures.ends g
      );
}

pub returns-in-None : goal.returns-in-None
returns-in-None c = (
  c.loop-at.invariant.passed,
  c.loop-at-test.true,
  gap_so_far c.args.bytes.now c.args.from c.loop-at.at c.loop-at.invariant.gap c.loop-at.invariant.within,
  open_there c.args.bytes.now c.loop-at.at c.loop-at-test.true (sym c.begins_comment.ensures ∙ c.if-begins_comment.true) c.in-None.ensures.ends,
)

pub returns-else-begins_comment : goal.returns-else-begins_comment
returns-else-begins_comment c = (
  c.loop-at.invariant.passed,
  c.loop-at-test.true,
  gap_so_far c.args.bytes.now c.args.from c.loop-at.at c.loop-at.invariant.gap c.loop-at.invariant.within,
  token_there c.args.bytes.now c.loop-at.at c.loop-at-test.true (sym c.if-is_blank.false ∙ c.is_blank.ensures) (sym c.if-begins_comment.false ∙ c.begins_comment.ensures),
)

pub returns : goal.returns
returns c = gap_to_end c.args.bytes.now c.args.from c.loop-at.at c.loop-at.invariant.gap (omega arith)
