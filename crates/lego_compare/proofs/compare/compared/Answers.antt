use Rattle.std.proofs.Common.{List, sym, subst}
use Rattle.lego_term.specs.BodyMap.{bodies_in}
use Rattle.lego_laws.specs.Counting.{Walked}
use Rattle.lego_laws.specs.Comparison.{Compared}
use Rattle.lego_level.specs.declared.constraint.Constraint.{Constraint}
use Rattle.lego_compare.specs.Answers.{IsDecidedBy}
use Rattle.lego_compare.specs.private.Codes.{order_of}
use Rattle.lego_compare.specs.private.Walks.{Passed}
use Rattle.lego_compare.proofs.DecidedLemmas.{decided, decided_equal}
use Rattle.lego_compare.proofs.compare.compared.Goals as goal

pub returns-then-equal-clause-decided : goal.returns-then-equal-clause-decided
returns-then-equal-clause-decided c =
    subst (λ (f : List Constraint). IsDecidedBy (order_of c.args.relation) (bodies_in c.args.setting.now.bodies.now) c.args.a.now c.args.b.now c.args.setting.now.place f) (sym c.new-found.ensures.items)
    (decided_equal (bodies_in c.args.setting.now.bodies.now) c.requires.closed (order_of c.args.relation) c.args.a.now c.args.b.now c.args.setting.now.place (c.equal.ensures.0 c.if-equal.true))

pub returns-in-Ok-clause-decided : goal.returns-in-Ok-clause-decided
returns-in-Ok-clause-decided c =
    decided (bodies_in c.args.setting.now.bodies.now) c.requires.closed (order_of c.args.relation) c.args.a.now c.args.b.now c.args.setting.now.place c.args.limit c.in-Ok.field-0 c.different.new.found.items
    (subst (λ (f : List Constraint). Passed (Walked (bodies_in c.args.setting.now.bodies.now) c.args.a.now c.args.b.now) (Compared (bodies_in c.args.setting.now.bodies.now) (order_of c.args.relation) c.args.a.now c.args.b.now) c.args.limit c.args.setting.now.place c.args.a.now c.args.b.now (bodies_in c.args.setting.now.bodies.now) f c.different.new.found.items c.in-Ok.field-0) c.new-found.ensures.items c.in-Ok.ensures)
