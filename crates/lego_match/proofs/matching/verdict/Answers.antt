use Rattle.std.proofs.Common.{Err, arith}
use Rattle.std.specs.Ordering.{nat_cmp}
use Rattle.std.specs.BTreeMap.{get}
use Rattle.lego_match.proofs.VerdictLemmas.{right_greater, left_greater, left_alone, right_alone, neither}
use Rattle.lego_match.proofs.matching.verdict.Goals as goal

pub returns-then-l-r : goal.returns-then-l-r
returns-then-l-r c =
    right_greater (get nat_cmp c.args.setting.now.free.now) _ c.args.depth c.args.deeper.items c.args.left c.args.right c.applied_hole-of_left.result c.applied_hole-of_right.result c.solution.result c.in-Some-Some.l c.in-Some-Some.r c.in-Some-Some.is-0 c.in-Some-Some.is-1
    c.applied_hole-of_left.ensures.some c.applied_hole-of_right.ensures.some c.applied_hole-of_right.ensures.few c.if-l-r.true c.requires.left_scoped c.solution.ensures (let n = c.len.ensures in omega arith)

pub returns-in-Some-Some : goal.returns-in-Some-Some
returns-in-Some-Some c =
    left_greater (get nat_cmp c.args.setting.now.free.now) _ c.args.depth c.args.deeper.items c.args.left c.args.right c.applied_hole-of_left.result c.applied_hole-of_right.result _ c.in-Some-Some.l c.in-Some-Some.r c.in-Some-Some.is-0 c.in-Some-Some.is-1
    c.applied_hole-of_left.ensures.some c.applied_hole-of_right.ensures.some c.applied_hole-of_left.ensures.few c.if-l-r.false c.requires.apart c.requires.right_scoped c.solution-in-Some-Some.ensures (let n = c.len.ensures in omega arith)

pub returns-in-Some-None : goal.returns-in-Some-None
returns-in-Some-None c =
    left_alone (get nat_cmp c.args.setting.now.free.now) _ c.args.depth c.args.deeper.items c.args.left c.args.right c.applied_hole-of_left.result c.applied_hole-of_right.result _ c.in-Some-None.hole c.in-Some-None.is-0 c.in-Some-None.is-1
    c.applied_hole-of_left.ensures.some c.applied_hole-of_right.ensures.none c.applied_hole-of_left.ensures.few c.requires.right_scoped c.solution-in-Some-None.ensures (let n = c.len.ensures in omega arith)

pub returns-in-None-Some : goal.returns-in-None-Some
returns-in-None-Some c =
    right_alone (get nat_cmp c.args.setting.now.free.now) _ c.args.depth c.args.deeper.items c.args.left c.args.right c.applied_hole-of_left.result c.applied_hole-of_right.result _ c.in-None-Some.hole c.in-None-Some.is-0 c.in-None-Some.is-1
    c.applied_hole-of_left.ensures.none c.applied_hole-of_right.ensures.some c.applied_hole-of_right.ensures.few c.requires.left_scoped c.solution-in-None-Some.ensures (let n = c.len.ensures in omega arith)

pub returns : goal.returns
returns c =
    neither (get nat_cmp c.args.setting.now.free.now) _ c.args.depth c.args.deeper.items c.args.left c.args.right c.applied_hole-of_left.result c.applied_hole-of_right.result (Err c.unsolved.result) c.unsolved.result c.in-None-None.is-0 c.in-None-None.is-1
    c.applied_hole-of_left.ensures.none c.applied_hole-of_right.ensures.none c.requires.ends c.unsolved.ensures (let n = c.len.ensures in omega arith)
