use Rattle.std.proofs.Common.{true, false, refl}
use Rattle.std.specs.Ordering.{nat_cmp}
use Rattle.std.specs.BTreeMap.{get}
use Rattle.lego_term.specs.BodyMap.{bodies_in}
use Rattle.lego_match.proofs.VerdictLemmas.{ready_at, too_many_at, pair_normal_answer, no_budget}
use Rattle.lego_match.proofs.matching.normal_matched.Goals as goal

pub verdict-requires-clause-left_scoped : goal.verdict-requires-clause-left_scoped
verdict-requires-clause-left_scoped c =
    (ready_at c.args.setting.now.bodies.now c.requires.closed (get nat_cmp c.args.setting.now.free.now) c.args.depth c.args.a.now c.args.b.now c.in-Err-Apart.left c.in-Err-Apart.right (record { room = 2001; limit = 0; are_normal = true; are_head_forms = false }) _ c.walk.new.deeper.items c.in-Err-Apart.field-0 c.new-deeper.ensures.items c.requires.locals c.requires.left_scoped c.requires.right_scoped c.in-Err-Apart.field-0-is c.in-Err-Apart.ensures refl).left_scoped

pub verdict-requires-clause-right_scoped : goal.verdict-requires-clause-right_scoped
verdict-requires-clause-right_scoped c =
    (ready_at c.args.setting.now.bodies.now c.requires.closed (get nat_cmp c.args.setting.now.free.now) c.args.depth c.args.a.now c.args.b.now c.in-Err-Apart.left c.in-Err-Apart.right (record { room = 2001; limit = 0; are_normal = true; are_head_forms = false }) _ c.walk.new.deeper.items c.in-Err-Apart.field-0 c.new-deeper.ensures.items c.requires.locals c.requires.left_scoped c.requires.right_scoped c.in-Err-Apart.field-0-is c.in-Err-Apart.ensures refl).right_scoped

pub verdict-requires-clause-locals : goal.verdict-requires-clause-locals
verdict-requires-clause-locals c =
    (ready_at c.args.setting.now.bodies.now c.requires.closed (get nat_cmp c.args.setting.now.free.now) c.args.depth c.args.a.now c.args.b.now c.in-Err-Apart.left c.in-Err-Apart.right (record { room = 2001; limit = 0; are_normal = true; are_head_forms = false }) _ c.walk.new.deeper.items c.in-Err-Apart.field-0 c.new-deeper.ensures.items c.requires.locals c.requires.left_scoped c.requires.right_scoped c.in-Err-Apart.field-0-is c.in-Err-Apart.ensures refl).locals

pub verdict-requires-clause-apart : goal.verdict-requires-clause-apart
verdict-requires-clause-apart c =
    (ready_at c.args.setting.now.bodies.now c.requires.closed (get nat_cmp c.args.setting.now.free.now) c.args.depth c.args.a.now c.args.b.now c.in-Err-Apart.left c.in-Err-Apart.right (record { room = 2001; limit = 0; are_normal = true; are_head_forms = false }) _ c.walk.new.deeper.items c.in-Err-Apart.field-0 c.new-deeper.ensures.items c.requires.locals c.requires.left_scoped c.requires.right_scoped c.in-Err-Apart.field-0-is c.in-Err-Apart.ensures refl).apart

pub returns-in-Err-Apart : goal.returns-in-Err-Apart
returns-in-Err-Apart c =
    pair_normal_answer (bodies_in c.args.setting.now.bodies.now) (get nat_cmp c.args.setting.now.free.now) c.args.depth c.args.a.now c.args.b.now c.in-Err-Apart.left c.in-Err-Apart.right c.walk.new.deeper.items c.verdict.result
    (ready_at c.args.setting.now.bodies.now c.requires.closed (get nat_cmp c.args.setting.now.free.now) c.args.depth c.args.a.now c.args.b.now c.in-Err-Apart.left c.in-Err-Apart.right (record { room = 2001; limit = 0; are_normal = true; are_head_forms = false }) _ c.walk.new.deeper.items c.in-Err-Apart.field-0 c.new-deeper.ensures.items c.requires.locals c.requires.left_scoped c.requires.right_scoped c.in-Err-Apart.field-0-is c.in-Err-Apart.ensures refl).pair
    c.verdict.ensures

pub unreachable-requires : goal.unreachable-requires
unreachable-requires c =
    no_budget (bodies_in c.args.setting.now.bodies.now) c.args.a.now c.args.b.now c.requires.left_normal c.requires.right_normal
    (too_many_at (bodies_in c.args.setting.now.bodies.now) (get nat_cmp c.args.setting.now.free.now) c.args.a.now c.args.b.now (record { room = 2001; limit = 0; are_normal = true; are_head_forms = false }) _ c.walk.new.deeper.items c.in-Err-Budget.field-0 c.in-Err-Budget.field-0-is c.in-Err-Budget.ensures)
