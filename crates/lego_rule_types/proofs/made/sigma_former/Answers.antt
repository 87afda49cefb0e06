use Rattle.std.proofs.lemmas.Result.{err_from_is_err_and}
use Rattle.lego_term.specs.Trees.{Sigma}
use Rattle.lego_inference.proofs.MadeLemmas.{making_fails}
use Rattle.lego_rule_types.proofs.made.sigma_former.Goals as goal

pub returns-in_err-sigma : goal.returns-in_err-sigma
returns-in_err-sigma c =
    let e = err_from_is_err_and c.from_residual.result c.from_residual.ensures.1 in
    rw (e.1, e.2) (making_fails (Sigma c.args.binder c.args.domain.now c.args.body.now) c.in_err-sigma.field-0.0 c.in_err-sigma.ensures)
