-- What the making of a refusal answers.
use Rattle.std.specs.Prelude.{◌≡◌, ◌⊎◌, ℕ, List, [], None, false, Result, Ok, Err}
use Rattle.std.specs.declared.alloc.Global.{Global}
use Rattle.std.specs.declared.vec.Vec.{Vec}
use Rattle.lego_base.specs.declared.place.Place.{Place}
use Rattle.lego_term.specs.Trees.{Core}
use Rattle.lego_grammar.specs.Grammar.{Names}
use Rattle.lego_inference.specs.declared.entry.Entry.{Entry as Item}
use Rattle.lego_reduce.specs.declared.fault.ReduceFault.{ReduceFault}
use Rattle.lego_reduce.specs.declared.fault.ReduceFault.TheVariants as Reduce
use Rattle.lego_session.specs.Refusals.{refusal_text}
use Rattle.lego_session.specs.declared.refusal.Cause.{Cause}
use Rattle.lego_session.specs.declared.refusal.Reason.{Reason}
use Rattle.lego_session.specs.declared.refusal.Refusal.{Refusal}
use Rattle.lego_session.specs.declared.session.Answer.{Answer}
use Rattle.lego_session.specs.declared.refusal.Cause.TheVariants.{TooFar, Budget, TooLarge, Memory}
use Rattle.lego_undo.specs.declared.undo_fault.UndoFault.{UndoFault}
use Rattle.lego_undo.specs.declared.undo_fault.UndoFault.TheVariants as Undo

-- the refusal has the place, the cause and their text; without memory it says so, and has no text
abbrev pub IsRefusalOf : Names → List Item → Place → Cause → Place → Cause → List ℕ → Type 0
IsRefusalOf names es place cause p c text =
    ((c ≡ Memory) × (text ≡ [])) ⊎ ((cause ≡ Memory → ⊥) × (p ≡ place) × (c ≡ cause) × (text ≡ refusal_text names es place cause))

-- the cause for steps that aren't undone
abbrev pub undo_cause : UndoFault → Cause
undo_cause (Undo.TooFar asked held) = TooFar asked held

-- the cause for a form of a term that isn't reached
abbrev pub reduce_cause : Core → ReduceFault → Cause
reduce_cause core Reduce.Budget = Budget (record { under = []; term = core }) None
reduce_cause core (Reduce.TooLarge i j) = TooLarge i j
reduce_cause core Reduce.Memory = Memory

-- a refusal for such a place and cause, with the text of them; want of memory is free
abbrev pub IsRefusedSo : Names → List Item → (Place → Cause → Type 0) → Place → Cause → List ℕ → Type 0
IsRefusedSo names es So p cause text =
    ((cause ≡ Memory) × (text ≡ [])) ⊎ (So p cause × (cause ≡ Memory → ⊥) × (text ≡ refusal_text names es p cause))

-- what a command that only prints answers, from its text, or from why there is none
abbrev pub IsAnswerOf : Names → List Item → Result (Vec ℕ Global) Reason → Result Answer Refusal → Type 0
IsAnswerOf names es (Ok text) (Ok answer) = (answer.step ≡ false) × (answer.text ≡ text.items)
IsAnswerOf names es (Err reason) (Err refusal) = IsRefusalOf names es reason.place reason.cause refusal.place refusal.cause refusal.text
IsAnswerOf names es _ _ = ⊥
