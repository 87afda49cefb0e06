use Rattle.std.proofs.lemmas.Result.{err_from_is_err_and}
use Rattle.lego_reduce.proofs.MachineLemmas.{rebuilt_fault}
use Rattle.lego_reduce.proofs.frames.rebuilt.Goals as goal

pub returns-in_err-made-2 : goal.returns-in_err-made-2
returns-in_err-made-2 c =
    let p = err_from_is_err_and c.from_residual-in_err-made-2.result c.from_residual-in_err-made-2.ensures.1 in
    rw (p.1, p.2) (rebuilt_fault c.args.frames.now c.loop-index.index c.index-frames-frames.result c.args.term.now c.loop-index.made c.in_err-made-2.field-0.0 c.loop-index-test.true c.index-frames-frames.is c.loop-index.invariant c.in_err-made-2.ensures)
