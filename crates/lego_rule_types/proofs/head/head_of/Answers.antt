use Rattle.std.proofs.Common.{Err, Ok}
use Rattle.std.proofs.lemmas.Result.{err_from_is_err_and}
use Rattle.lego_inference.specs.Entries.{laws_entries}
use Rattle.lego_inference.specs.Locals.{binders_of}
use Rattle.lego_inference.specs.private.Wanting.{LacksHead}
use Rattle.lego_inference.proofs.HeadLemmas.{closed_map, reduces_in, found_head, lacks_budget, lacks_large}
use Rattle.lego_rule_types.proofs.head.head_of.Goals as goal

pub head-requires-clause-closed : goal.head-requires-clause-closed
head-requires-clause-closed c = closed_map c.bodies.result.now (laws_entries c.args.setting.now.signature.now) c.bodies.ensures.are c.bodies.ensures.closed

pub returns-in_err-left-in-Err-Budget : goal.returns-in_err-left-in-Err-Budget
returns-in_err-left-in-Err-Budget c =
    let e = err_from_is_err_and c.from_residual.result c.from_residual.ensures.1 in
    rw (e.1, e.2) LacksHead.memory

pub returns-in-Ok : goal.returns-in-Ok
returns-in-Ok c =
    found_head (laws_entries c.args.setting.now.signature.now) c.args.setting.now.limit (binders_of c.args.locals.now) c.args.ty.now c.in-Ok.reduced
    (reduces_in c.bodies.result.now (laws_entries c.args.setting.now.signature.now) c.args.ty.now c.args.setting.now.limit (Ok c.in-Ok.reduced) c.bodies.ensures.are c.in-Ok.ensures)

pub returns-in_ok-left-in-Err-Budget : goal.returns-in_ok-left-in-Err-Budget
returns-in_ok-left-in-Err-Budget c =
    lacks_budget (laws_entries c.args.setting.now.signature.now) c.args.setting.now.limit (binders_of c.args.locals.now) c.args.ty.now c.in_ok-left-in-Err-Budget.left c.in-Err-Budget.field-0 c.in-Err-Budget.field-0-is c.in_ok-left-in-Err-Budget.ensures
    (reduces_in c.bodies.result.now (laws_entries c.args.setting.now.signature.now) c.args.ty.now c.args.setting.now.limit (Err c.in-Err-Budget.field-0) c.bodies.ensures.are c.in-Err-Budget.ensures)

pub returns-in-Err-TooLarge : goal.returns-in-Err-TooLarge
returns-in-Err-TooLarge c =
    lacks_large (laws_entries c.args.setting.now.signature.now) c.args.setting.now.limit (binders_of c.args.locals.now) c.args.ty.now c.in-Err-TooLarge.field-0 c.in-Err-TooLarge.size c.in-Err-TooLarge.depth c.in-Err-TooLarge.field-0-is
    (reduces_in c.bodies.result.now (laws_entries c.args.setting.now.signature.now) c.args.ty.now c.args.setting.now.limit (Err c.in-Err-TooLarge.field-0) c.bodies.ensures.are c.in-Err-TooLarge.ensures)

pub returns-in-Err-Memory : goal.returns-in-Err-Memory
returns-in-Err-Memory c = LacksHead.memory
