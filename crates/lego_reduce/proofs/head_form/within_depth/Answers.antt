use Rattle.std.proofs.Common.{◌≡◌, ap, arith}
use Rattle.lego_term.specs.Trees.{Core, depth}
use Rattle.lego_reduce.specs.private.Frames.{plug}
use Rattle.lego_reduce.proofs.FrameLemmas.{depth-plug}
use Rattle.lego_reduce.proofs.head_form.within_depth.Goals as goal

pub returns-in_ok-whole-clause-few : goal.returns-in_ok-whole-clause-few
returns-in_ok-whole-clause-few c =
    let whole : Core = c.in_ok-whole.whole in
    let around : Core = plug c.args.frames.now c.args.term.now in
    let same : depth whole ≡ depth around = ap depth c.in_ok-whole.ensures in
    omega (arith, depth-plug c.args.frames.now c.args.term.now)
