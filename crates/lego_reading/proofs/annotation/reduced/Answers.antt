use Rattle.std.proofs.Common.{◌≡◌, ◌∙◌, false, sym, ap, subst, arith}
use Rattle.std.proofs.lemmas.Result.{err_from_is_err_and}
use Rattle.lego_term.specs.declared.seen.Seen.{Seen}
use Rattle.lego_term.specs.Trees.{Core, loose}
use Rattle.lego_grammar.specs.Reading.{is_sigma}
use Rattle.lego_inference.specs.Entries.{laws_entries}
use Rattle.lego_reading.specs.declared.fault.ReadFault.TheVariants.{NotSigma}
use Rattle.lego_reading.specs.private.Annotations.{IsNotAnnotated}
use Rattle.lego_reading.proofs.AnnotationLemmas.{puts_not, annotates_end, shared_annotates, shown_no_sigma}
use Rattle.lego_reading.proofs.annotation.reduced.Goals as goal

pub returns-in_err-with_values : goal.returns-in_err-with_values
returns-in_err-with_values c =
    let e = err_from_is_err_and c.from_residual.result c.from_residual.ensures.1 in
    rw (e.1, e.2) (puts_not (laws_entries c.args.setting.now.context.now.entries) c.args.setting.now.limit c.args.scope.now c.args.ty.now
    c.in_err-with_values.field-0.0 c.requires.other c.in_err-with_values.ensures)

pub returns-in-Sigma : goal.returns-in-Sigma
returns-in-Sigma c =
    let es = laws_entries c.args.setting.now.context.now.entries in
    let limit = c.args.setting.now.limit in
    let end = c.in_ok-end.ensures in
    let values = c.in_ok-with_values.ensures in
    let e = ap (λ (t : Core). loose t) c.in-Sigma.ensures.root in
    shared_annotates es limit c.args.scope.now c.args.ty.now c.in-Sigma.binder c.in-Sigma.first.now c.in-Sigma.second.now c.shared.result
    (annotates_end es limit c.args.scope.now c.args.ty.now c.in_ok-with_values.with_values c.in_ok-end.end _ c.requires.other values.0 end.0 (sym c.in-Sigma.ensures.root))
    (omega (arith, values.1, end.1, e)) c.shared.ensures.ok c.shared.ensures.err

pub returns-in_err-got-in_default : goal.returns-in_err-got-in_default
returns-in_err-got-in_default c =
    let e = err_from_is_err_and c.from_residual-in_err-got-in_default.result c.from_residual-in_err-got-in_default.ensures.1 in
    rw (e.1, e.2) IsNotAnnotated.memory

pub returns : goal.returns
returns c =
    let es = laws_entries c.args.setting.now.context.now.entries in
    let limit = c.args.setting.now.limit in
    let end = c.in_ok-end.ensures in
    let values = c.in_ok-with_values.ensures in
    let none : is_sigma c.in_ok-end.end ≡ false = ap is_sigma (sym c.view.ensures.root) ∙ shown_no_sigma c.view.result c.in_default.not-Sigma in
    subst (λ (z : Seen). IsNotAnnotated es limit c.args.scope.now c.args.ty.now (NotSigma z)) (sym c.in_ok-got-in_default.ensures)
    (IsNotAnnotated.not_sigma (annotates_end es limit c.args.scope.now c.args.ty.now c.in_ok-with_values.with_values c.in_ok-end.end c.in_ok-end.end c.requires.other values.0 end.0 (λ z. c.in_ok-end.end)) none)
