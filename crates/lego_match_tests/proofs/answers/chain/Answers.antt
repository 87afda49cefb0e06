use Rattle.std.proofs.Common.{ap, sym, subst}
use Rattle.lego_term.specs.Trees.{loose}
use Rattle.lego_term.specs.BodyMap.{AreClosed}
use Rattle.lego_reduce.proofs.ClosedLemmas.{closed_empty, closed_insert}
use Rattle.lego_match_tests.proofs.answers.chain.Goals as goal

pub loop-number-init : goal.loop-number-init
loop-number-init c = subst AreClosed (sym c.new-bodies.ensures) closed_empty

pub loop-number-preserved : goal.loop-number-preserved
loop-number-preserved c =
    subst AreClosed (sym c.in_ok-put.ensures.ok) (closed_insert c.loop-number.bodies c.loop-number.number c.in_ok-body.body c.loop-number.invariant (ap loose c.in_ok-body.ensures.0))
