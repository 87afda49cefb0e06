use Rattle.std.proofs.Common.{◌≡◌, Option, None, ap, sym, subst, ◌∙◌, arith, Ok}
use Rattle.std.proofs.lemmas.Result.{err_from_is_err_and}
use Rattle.lego_term.specs.Trees.{Core, loose}
use Rattle.lego_term.specs.Sequences.{head_step}
use Rattle.lego_term.specs.BodyMap.{bodies_in}
use Rattle.lego_reduce.specs.private.Frames.{plug, plug_one, Contracted, Turns}
use Rattle.lego_reduce.proofs.FrameLemmas.{plug-push, loose-plug, steps_in}
use Rattle.lego_reduce.proofs.MachineLemmas.{turns_around, contracted_around}
use Rattle.lego_reduce.proofs.head_form.next_turn.Goals as goal

pub contracted-requires-clause-room : goal.contracted-requires-clause-room
contracted-requires-clause-room c = omega (arith, loose-plug c.args.frames.now.items c.args.inner)

pub returns-in_err-made : goal.returns-in_err-made
returns-in_err-made c =
    let b = bodies_in c.args.bodies.now in
    let fs = c.args.frames.now.items in
    let p = err_from_is_err_and c.from_residual.result c.from_residual.ensures.1 in
    rw (p.1, p.2) (contracted_around b fs fs c.args.inner c.args.has_budget c.in_err-made.field-0.0 c.in_err-made.ensures)

pub returns-in-Some : goal.returns-in-Some
returns-in-Some c =
    let b = bodies_in c.args.bodies.now in
    let fs = c.args.frames.now.items in
    let h = subst (λ (o : Option Core). Contracted (head_step b c.args.inner) c.args.has_budget (Ok o)) c.in-Some.is c.in_ok-made.ensures in
    (h.0, steps_in b fs c.args.inner c.in-Some.made h.1)

pub met-requires : goal.met-requires
met-requires c =
    let fs = c.pop.new.self.items in
    let f = c.in-Some-pop.frame in
    let u : Core = c.args.inner in
    let same : plug c.args.frames.now.items u ≡ plug fs (plug_one f u) = ap (λ l. plug l u) c.in-Some-pop.ensures.items ∙ plug-push fs f u in
    let bound : loose (plug c.args.frames.now.items u) ≡ loose (plug fs (plug_one f u)) = ap loose same in
    omega (arith, loose-plug fs (plug_one f u))

pub returns-in-Some-pop : goal.returns-in-Some-pop
returns-in-Some-pop c =
    let bodies = bodies_in c.args.bodies.now in
    let fs = c.pop.new.self.items in
    let f = c.in-Some-pop.frame in
    let u : Core = c.args.inner in
    let same : plug c.args.frames.now.items u ≡ plug fs (plug_one f u) = ap (λ l. plug l u) c.in-Some-pop.ensures.items ∙ plug-push fs f u in
    let none : head_step bodies u ≡ None =
    subst (λ (o : Option Core). Contracted (head_step bodies u) c.args.has_budget (Ok o)) c.in-None.is c.in_ok-made.ensures in
    subst (λ (w : Core). Turns w (head_step bodies w) c.args.has_budget (plug fs) c.met.result) (sym same) (turns_around bodies fs f u c.args.has_budget c.met.result none c.met.ensures)
