use Rattle.std.proofs.lemmas.Result.{err_from_is_err_and}
use Rattle.lego_term.specs.Trees.{instantiate}
use Rattle.lego_inference.proofs.MadeLemmas.{rebuilding_fails}
use Rattle.lego_rule_types.proofs.made.instance.Goals as goal

pub returns-in_err-subst : goal.returns-in_err-subst
returns-in_err-subst c =
    let e = err_from_is_err_and c.from_residual.result c.from_residual.ensures.1 in
    rw (e.1, e.2) (rebuilding_fails (instantiate c.args.body.now c.args.value.now) c.in_err-subst.field-0.0 c.in_err-subst.ensures)
