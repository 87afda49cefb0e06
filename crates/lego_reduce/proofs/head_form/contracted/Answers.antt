use Rattle.std.proofs.Common.{ap, sym, ◌∙◌}
use Rattle.std.proofs.lemmas.Result.{err_from_is_err_and}
use Rattle.lego_term.specs.Trees.{Core, instantiate}
use Rattle.lego_term.specs.Sequences.{head_step}
use Rattle.lego_term.specs.BodyMap.{bodies_in}
use Rattle.lego_reduce.proofs.MachineLemmas.{contracted_fault}
use Rattle.lego_reduce.proofs.head_form.contracted.Goals as goal

pub returns-in-Some : goal.returns-in-Some
returns-in-Some c =
    let b = bodies_in c.args.bodies.now in
    (c.if-not-has_budget.true, (c.in-Some.field-0.now, ap (head_step b) (sym c.in-Const.ensures.root) ∙ sym c.in-Some.ensures))

pub returns-in-Local : goal.returns-in-Local
returns-in-Local c =
    let b = bodies_in c.args.bodies.now in
    (c.if-not-has_budget-2.true, (instantiate c.in-Local.field-2.now c.in-Local.field-1.now, ap (head_step b) (sym c.in-Local.ensures.root)))

pub returns-in_err-subst-in-Local-2 : goal.returns-in_err-subst-in-Local-2
returns-in_err-subst-in-Local-2 c =
    let b = bodies_in c.args.bodies.now in
    let made : Core = instantiate c.in-Local.field-2.now c.in-Local.field-1.now in
    let p = err_from_is_err_and c.from_residual-in_err-subst-in-Local-2.result c.from_residual-in_err-subst-in-Local-2.ensures.1 in
    rw (p.1, p.2) (contracted_fault made (head_step b c.args.inner.now) c.args.has_budget c.in_err-subst-in-Local-2.field-0.0 c.if-not-has_budget-2.false (ap (head_step b) (sym c.in-Local.ensures.root)) c.in_err-subst-in-Local-2.ensures)
