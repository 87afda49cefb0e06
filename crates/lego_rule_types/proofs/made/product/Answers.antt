use Rattle.std.proofs.lemmas.Result.{err_from_is_err_and}
use Rattle.lego_term.specs.Trees.{Pi}
use Rattle.lego_inference.proofs.MadeLemmas.{making_fails}
use Rattle.lego_rule_types.proofs.made.product.Goals as goal

pub returns-in_err-pi : goal.returns-in_err-pi
returns-in_err-pi c =
    let e = err_from_is_err_and c.from_residual.result c.from_residual.ensures.1 in
    rw (e.1, e.2) (making_fails (Pi c.args.binder c.args.domain.now c.args.body.now) c.in_err-pi.field-0.0 c.in_err-pi.ensures)
