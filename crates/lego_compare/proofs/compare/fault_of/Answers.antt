use Rattle.std.proofs.Common.{subst}
use Rattle.lego_term.specs.BodyMap.{bodies_in}
use Rattle.lego_compare.specs.private.Codes.{order_of}
use Rattle.lego_compare.specs.private.Causes.{Stopped}
use Rattle.lego_compare.proofs.CauseLemmas.{apart_whole, too_many_whole, from_left, from_right}
use Rattle.lego_compare.proofs.compare.fault_of.Goals as goal

pub returns-in-Differ : goal.returns-in-Differ
returns-in-Differ c =
    apart_whole (bodies_in c.args.setting.now.bodies.now) c.requires.closed (order_of c.args.relation) c.args.a.now c.args.b.now c.in-Differ.left c.in-Differ.right c.in-Differ.deeper
    (subst (λ s. Stopped (order_of c.args.relation) (bodies_in c.args.setting.now.bodies.now) c.args.a.now c.args.b.now c.args.limit s) c.in-Differ.is c.requires.stopped)

pub returns-in-Budget : goal.returns-in-Budget
returns-in-Budget c =
    let many =
    too_many_whole (bodies_in c.args.setting.now.bodies.now) c.args.a.now c.args.b.now c.args.limit
    (subst (λ s. Stopped (order_of c.args.relation) (bodies_in c.args.setting.now.bodies.now) c.args.a.now c.args.b.now c.args.limit s) c.in-Budget.is c.requires.stopped)
    in (many.0, many.1, c.requires.differ)

pub returns-in-Left : goal.returns-in-Left
returns-in-Left c = from_left (bodies_in c.args.setting.now.bodies.now) (order_of c.args.relation) c.args.a.now c.args.b.now c.args.limit c.too_large.result c.requires.differ c.too_large.ensures

pub returns-in-Right : goal.returns-in-Right
returns-in-Right c = from_right (bodies_in c.args.setting.now.bodies.now) (order_of c.args.relation) c.args.a.now c.args.b.now c.args.limit c.too_large-in-Right.result c.requires.differ c.too_large-in-Right.ensures
