use Rattle.std.proofs.lemmas.Result.{err_from_is_err_and}
use Rattle.lego_laws.specs.Places.{APair}
use Rattle.lego_inference.specs.private.Judging.{sigma_of}
use Rattle.lego_inference.specs.Entries.{laws_entries}
use Rattle.lego_inference.specs.Locals.{binders_of}
use Rattle.lego_inference.proofs.HeadLemmas.{lacks, found_in}
use Rattle.lego_inference.proofs.head.sigma_of.Goals as goal

pub returns-in_err-found : goal.returns-in_err-found
returns-in_err-found c =
    let e = err_from_is_err_and c.from_residual.result c.from_residual.ensures.1 in
    rw (e.1, e.2) (lacks sigma_of (laws_entries c.args.setting.now.signature.now) c.args.setting.now.asked (binders_of c.args.locals.now) c.args.term.now APair c.args.ty.now c.in_err-found.field-0.0 c.in_err-found.ensures)

pub returns : goal.returns
returns c = found_in sigma_of (laws_entries c.args.setting.now.signature.now) c.args.setting.now.asked (binders_of c.args.locals.now) c.args.term.now APair c.args.ty.now c.in_ok-found.found c.sigma_in.result c.in_ok-found.ensures c.sigma_in.ensures
