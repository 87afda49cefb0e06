use Rattle.std.proofs.Common.{ap, sym, subst}
use Rattle.lego_term.specs.Trees.{loose}
use Rattle.lego_term.specs.BodyMap.{AreClosed}
use Rattle.lego_reduce.proofs.ClosedLemmas.{closed_empty, closed_insert}
use Rattle.lego_tests.proofs.compare.universes.Goals as goal

pub returns : goal.returns
returns c =
    let none = subst AreClosed (sym c.new-bodies.ensures) closed_empty in
    let one = subst AreClosed (sym c.in_ok-put.ensures.ok) (closed_insert c.new-bodies.result 1 c.in_ok-univ.field-0 none (ap loose c.in_ok-univ.ensures.0)) in
    subst AreClosed (sym c.in_ok-put-2.ensures.ok) (closed_insert c.put.new.self 2 c.in_ok-univ-2.field-0 one (ap loose c.in_ok-univ-2.ensures.0))
