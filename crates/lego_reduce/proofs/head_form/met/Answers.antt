use Rattle.std.proofs.lemmas.Result.{err_from_is_err_and}
use Rattle.lego_term.specs.Trees.{instantiate}
use Rattle.lego_reduce.specs.private.Frames.{plug_one, contract_one}
use Rattle.lego_reduce.proofs.MachineLemmas.{beta_redex, first_redex, second_redex, step_fault, whole_fault}
use Rattle.lego_reduce.proofs.head_form.met.Goals as goal

pub returns-then-not-has_budget : goal.returns-then-not-has_budget
returns-then-not-has_budget c =
    let r = c.in-Lam-Argument in
    (c.if-not-has_budget.true, (instantiate r.body.now r.argument, beta_redex c.args.frame.now c.args.inner.now r.field-0-1 r.field-0-0 r.field-1-0.now r.body.now r.argument r.is-1 r.ensures.root))

pub returns-in_err-subst-in-Lam-Argument : goal.returns-in_err-subst-in-Lam-Argument
returns-in_err-subst-in-Lam-Argument c =
    let r = c.in-Lam-Argument in
    let p = err_from_is_err_and c.from_residual.result c.from_residual.ensures.1 in
    rw (p.1, p.2) (step_fault (plug_one c.args.frame.now c.args.inner.now) (instantiate r.body.now r.argument) (contract_one c.args.frame.now c.args.inner.now) c.args.has_budget (λ u. u) c.in_err-subst-in-Lam-Argument.field-0.0 c.if-not-has_budget.false (beta_redex c.args.frame.now c.args.inner.now r.field-0-1 r.field-0-0 r.field-1-0.now r.body.now r.argument r.is-1 r.ensures.root) c.in_err-subst-in-Lam-Argument.ensures)

pub returns-then-not-has_budget-2 : goal.returns-then-not-has_budget-2
returns-then-not-has_budget-2 c =
    let r = c.in-Pair-First in
    (c.if-not-has_budget-2.true, (r.first.now, first_redex c.args.frame.now c.args.inner.now r.field-0-0 r.field-1-0.now r.field-2-0.now r.first.now r.field-4-0.now r.is-1 r.ensures.root))

pub returns-then-not-has_budget-3 : goal.returns-then-not-has_budget-3
returns-then-not-has_budget-3 c =
    let r = c.in-Pair-Second in
    (c.if-not-has_budget-3.true, (r.second.now, second_redex c.args.frame.now c.args.inner.now r.field-0-0 r.field-1-0.now r.field-2-0.now r.field-3-0.now r.second.now r.is-1 r.ensures.root))

pub returns-in_err-surrounded-in_default : goal.returns-in_err-surrounded-in_default
returns-in_err-surrounded-in_default c =
    let p = err_from_is_err_and c.from_residual-in_err-surrounded-in_default.result c.from_residual-in_err-surrounded-in_default.ensures.1 in
    rw (p.1, p.2) (whole_fault (plug_one c.args.frame.now c.args.inner.now) (contract_one c.args.frame.now c.args.inner.now) c.args.has_budget (λ u. u) c.in_err-surrounded-in_default.field-0.0 c.in_err-surrounded-in_default.ensures)
