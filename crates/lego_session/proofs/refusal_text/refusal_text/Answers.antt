use Rattle.std.proofs.Common.{◌≡◌, ℕ, List, length, ap, ap₂, ◌∙◌, Option, Some, Result, Ok, Err, IfOk, arith}
use Rattle.std.specs.declared.alloc.Global.{Global}
use Rattle.std.specs.declared.vec.Vec.{Vec}
use Rattle.std.proofs.lemmas.List.{take_all}
use Rattle.lego_base.specs.declared.place.Place.{Place}
use Rattle.lego_grammar.specs.Grammar.{Names}
use Rattle.lego_inference.specs.declared.entry.Entry.{Entry as Item}
use Rattle.lego_level.specs.declared.constraint.Constraint.{Constraint}
use Rattle.lego_print.specs.declared.heading.Heading.{Heading}
use Rattle.lego_print.specs.Lines.{refusal_lines}
use Rattle.lego_session.specs.Refusals.{heading, cycle_of, details_text, lines_under, refusal_text}
use Rattle.lego_session.specs.Texts.{scope_among}
use Rattle.lego_session.specs.declared.refusal.Cause.{Cause}
use Rattle.lego_session.specs.private.Items.{front_scope}
use Rattle.lego_session.proofs.refusal_text.refusal_text.Goals as goal

-- the lines under the cause's heading, with its details over all entries and its cycle, are the text of the refusal
lines_are : {E : Type 0} (names : Names) (es : List Item) (place : Place) (cause : Cause) (h : Heading) (f : List Item × ℕ) (details shown : List ℕ) (cycle : List Constraint)
    → Some h ≡ heading cause → f ≡ (es, length es) → details ≡ details_text (front_scope names f) cause → shown ≡ details → cycle ≡ cycle_of cause
    → (r : Result (Vec ℕ Global) E) → IfOk r (λ text. text.items ≡ refusal_lines place h shown cycle)
    → IfOk r (λ text. text.items ≡ refusal_text names es place cause)
lines_are names es place cause h f details shown cycle is all told same cycles (Ok text) p =
    p
    ∙ ap₂ (λ (xs : List ℕ) (cs : List Constraint). refusal_lines place h xs cs)
    (same ∙ told ∙ ap (λ (g : List Item × ℕ). details_text (front_scope names g) cause) all ∙ ap (λ (inside : List Item). details_text (scope_among names es inside) cause) (take_all (length es) es (omega arith)))
    cycles
    ∙ ap (λ (o : Option Heading). lines_under o place (details_text (scope_among names es es) cause) (cycle_of cause)) is
lines_are names es place cause h f details shown cycle is all told same cycles (Err e) p = tt

pub returns : goal.returns
returns c =
    lines_are c.args.names.now c.args.context.now.entries c.args.place c.args.cause.now c.in-Some.heading _ c.in_ok-details.details.items c.as_slice.result.now c.cycle.result.now
    c.in-Some.ensures c.whole.ensures c.in_ok-details.ensures c.as_slice.ensures.value c.cycle.ensures c.refusal_lines.result c.refusal_lines.ensures
