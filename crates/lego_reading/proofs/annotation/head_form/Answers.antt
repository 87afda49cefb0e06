use Rattle.std.proofs.lemmas.Result.{err_from_is_err_and}
use Rattle.lego_inference.specs.Entries.{laws_entries}
use Rattle.lego_reading.specs.private.Annotations.{IsNotAnnotated}
use Rattle.lego_reading.proofs.AnnotationLemmas.{ends, ends_over, ends_large}
use Rattle.lego_reading.proofs.annotation.head_form.Goals as goal

pub head-requires-clause-closed : goal.head-requires-clause-closed
head-requires-clause-closed c = c.bodies.ensures.closed

pub returns-in_err-left-in-Err-Budget : goal.returns-in_err-left-in-Err-Budget
returns-in_err-left-in-Err-Budget c =
    let e = err_from_is_err_and c.from_residual.result c.from_residual.ensures.1 in
    rw (e.1, e.2) (λ same none. IsNotAnnotated.memory)

pub returns-in-Ok : goal.returns-in-Ok
returns-in-Ok c =
    ends c.bodies.result.now (laws_entries c.args.setting.now.context.now.entries) c.bodies.ensures.exact c.args.setting.now.limit c.args.scope.now
    c.args.ty.now c.args.with_values.now c.in-Ok.reduced c.bodies.ensures.closed c.in-Ok.ensures

pub returns-in_ok-left-in-Err-Budget : goal.returns-in_ok-left-in-Err-Budget
returns-in_ok-left-in-Err-Budget c =
    ends_over c.bodies.result.now (laws_entries c.args.setting.now.context.now.entries) c.bodies.ensures.exact c.args.setting.now.limit c.args.scope.now
    c.args.ty.now c.args.with_values.now c.in_ok-left-in-Err-Budget.left c.in-Err-Budget.field-0 c.in-Err-Budget.field-0-is
    c.in_ok-left-in-Err-Budget.ensures c.in-Err-Budget.ensures

pub returns-in-Err-TooLarge : goal.returns-in-Err-TooLarge
returns-in-Err-TooLarge c =
    ends_large c.bodies.result.now (laws_entries c.args.setting.now.context.now.entries) c.bodies.ensures.exact c.args.setting.now.limit c.args.scope.now
    c.args.ty.now c.args.with_values.now c.in-Err-TooLarge.field-0 c.in-Err-TooLarge.size c.in-Err-TooLarge.depth c.in-Err-TooLarge.field-0-is
    c.in-Err-TooLarge.ensures

pub returns-in-Err-Memory : goal.returns-in-Err-Memory
returns-in-Err-Memory c = λ same none. IsNotAnnotated.memory
