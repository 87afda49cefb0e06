use Rattle.std.proofs.Common.{Ok, Err}
use Rattle.std.proofs.lemmas.Result.{err_from_is_err_and}
use Rattle.lego_inference.specs.Entries.{laws_entries}
use Rattle.lego_inference.specs.Locals.{binders_of}
use Rattle.lego_inference.specs.private.Judging.{PairFails}
use Rattle.lego_inference.proofs.HeadLemmas.{closed_map}
use Rattle.lego_inference.proofs.StatedLemmas.{pair_fails}
use Rattle.lego_inference.proofs.stated.compare.Goals as goal

pub below-requires-clause-closed : goal.below-requires-clause-closed
below-requires-clause-closed c = closed_map c.bodies-bodies.result.now (laws_entries c.args.setting.now.signature.now) c.bodies-bodies.ensures.are c.bodies-bodies.ensures.closed

pub returns-in_err-extend_from_slice-in-Ok : goal.returns-in_err-extend_from_slice-in-Ok
returns-in_err-extend_from_slice-in-Ok c =
    let e = err_from_is_err_and c.from_residual.result c.from_residual.ensures.1 in
    rw (e.1, e.2) PairFails.memory

pub returns-in-Err : goal.returns-in-Err
returns-in-Err c =
    pair_fails (binders_of c.args.locals.now) c.args.term.now c.args.have.now c.args.want.now c.bodies-bodies.result.now (laws_entries c.args.setting.now.signature.now) c.args.setting.now.asked.limit c.in-Err.fault c.refusal.result
    c.bodies-bodies.ensures.are c.in-Err.ensures.refused c.refusal.ensures
