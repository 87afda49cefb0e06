use Rattle.std.proofs.Common.{◌+◌, Ok, Err}
use Rattle.std.proofs.lemmas.Result.{err_from_is_err_and}
use Rattle.lego_reading.proofs.RunLemmas.{parts_stop, part_more}
use Rattle.lego_reading.proofs.reading.projections.Goals as goal

pub returns-in_err-projected : goal.returns-in_err-projected
returns-in_err-projected c = λ es types limit scope s r.
    let e = err_from_is_err_and c.from_residual.result c.from_residual.ensures.1 in
    rw (e.1, e.2) (parts_stop s c.args.parts.now (c.loop-part.part-index + 1)
    (part_more limit s c.args.parts.now c.loop-part.part-index _ (Err c.in_err-projected.field-0.0) c.loop-part-test.true
    (c.loop-part.invariant es types scope s r) c.in_err-projected.ensures))

pub loop-part-preserved : goal.loop-part-preserved
loop-part-preserved c = λ es types scope s r.
    part_more 0 s c.args.parts.now c.loop-part.part-index _ (Ok c.in_ok-projected.projected) c.loop-part-test.true
    (c.loop-part.invariant es types scope s r) c.in_ok-projected.ensures
