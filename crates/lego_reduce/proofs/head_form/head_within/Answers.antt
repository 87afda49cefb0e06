use Rattle.std.proofs.Common.{◌+◌, nat_lt, Ok, Err, sym, subst}
use Rattle.std.proofs.lemmas.Result.{err_from_is_err_and}
use Rattle.lego_term.specs.Trees.{Core}
use Rattle.lego_term.specs.Sequences.{head_step}
use Rattle.lego_term.specs.BodyMap.{bodies_in}
use Rattle.lego_reduce.specs.declared.head_form.Turn.{Turn}
use Rattle.lego_reduce.specs.private.Frames.{plug, StaysWithin, Turns}
use Rattle.lego_reduce.proofs.HeadLemmas.{Reached, reached_more, reached_fault, reached_deep}
use Rattle.lego_reduce.proofs.head_form.head_within.Goals as goal

pub returns-in_err-made-clause-end : goal.returns-in_err-made-clause-end
returns-in_err-made-clause-end c =
    let p = err_from_is_err_and c.from_residual-in_err-made.result c.from_residual-in_err-made.ensures.1 in
    rw (p.1, p.2) (reached_fault c.args.bodies.now c.args.t.now (plug c.machine.frames.items c.machine.inner) c.args.limit c.machine.steps (plug c.next_turn.new.frames.items) c.in_err-made.field-0.0 c.requires.closed c.machine.invariant.0 c.in_err-made.ensures)

pub returns-in_err-within_depth-in-Stepped-clause-end :
    goal.returns-in_err-within_depth-in-Stepped-clause-end
returns-in_err-within_depth-in-Stepped-clause-end c =
    let b = c.args.bodies.now in
    let u : Core = plug c.machine.frames.items c.machine.inner in
    let fs = c.next_turn.new.frames.items in
    let made : Core = c.in-Stepped.made in
    let h = subst (λ (r : Turn). Turns u (head_step (bodies_in b) u) (nat_lt c.machine.steps c.args.limit) (plug fs) (Ok r)) c.in-Stepped.is c.in_ok-made.ensures in
    let r = reached_more b c.args.t.now u (plug fs made) c.args.limit c.machine.steps c.requires.closed c.machine.invariant.0 h.0 h.1 in
    let p = err_from_is_err_and c.from_residual-in_err-within_depth-in-Stepped.result c.from_residual-in_err-within_depth-in-Stepped.ensures.1 in
    rw (p.1, p.2) (reached_deep b c.args.t.now (plug fs made) c.args.limit (c.machine.steps + 1) c.in_err-within_depth-in-Stepped.field-0.0 r (subst (λ l. StaysWithin (plug l made) (Err c.in_err-within_depth-in-Stepped.field-0.0)) c.as_slice.ensures c.in_err-within_depth-in-Stepped.ensures.refused))

pub machine-preserved : goal.machine-preserved
machine-preserved c =
    let b = c.args.bodies.now in
    let u : Core = plug c.machine.frames.items c.machine.inner in
    let fs = c.next_turn.new.frames.items in
    let made : Core = c.in-Stepped.made in
    let h = subst (λ (r : Turn). Turns u (head_step (bodies_in b) u) (nat_lt c.machine.steps c.args.limit) (plug fs) (Ok r)) c.in-Stepped.is c.in_ok-made.ensures in
    let r = reached_more b c.args.t.now u (plug fs made) c.args.limit c.machine.steps c.requires.closed c.machine.invariant.0 h.0 h.1 in
    (subst (Reached b c.args.t.now c.args.limit (c.machine.steps + 1)) (sym c.in_ok-inner-in-Stepped.ensures.whole) r, c.in_ok-inner-in-Stepped.ensures.head)
