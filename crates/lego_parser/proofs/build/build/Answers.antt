use Rattle.lego_parser.proofs.BuildLemmas.{left_whole, number_at, has_step, left_more, has_ended, left_parses}
use Rattle.lego_parser.proofs.build.build.Goals as goal

pub loop-token-init : goal.loop-token-init
loop-token-init c = rw (c.mode-mode.ensures, c.new-machine.ensures) (left_whole _ _ c.args.start c.requires.numbered c.requires.whole)

pub number_of-number-requires-clause-numbered : goal.number_of-number-requires-clause-numbered
number_of-number-requires-clause-numbered c = number_at _ _ c.args.tokens.now c.loop-token.token-index _ c.loop-token-test.true c.requires.numbered

pub unreachable-requires : goal.unreachable-requires
unreachable-requires c =
    has_step _ _ c.args.tokens.now c.loop-token.token-index _ c.loop-token-test.true c.len-held.ensures.distinct _ _ c.loop-token.invariant _ c.number_of-number.ensures
    (rw c.in_default.is at c.in_ok-next.ensures)

pub loop-token-preserved : goal.loop-token-preserved
loop-token-preserved c =
    left_more _ _ c.args.tokens.now c.loop-token.token-index _ c.loop-token-test.true c.len-held.ensures.distinct _ _ c.loop-token.invariant _ c.number_of-number.ensures
    (rw c.in-Some.is at c.in_ok-next.ensures)

pub act_of-requires : goal.act_of-requires
act_of-requires c = record { ended = has_ended _ _ c.args.tokens.now _ _ _ c.loop-token-test.false c.loop-token.invariant }

pub returns : goal.returns
returns c = left_parses _ _ c.args.tokens.now _ _ _ c.loop-token-test.false c.loop-token.invariant _ c.act_of.ensures
