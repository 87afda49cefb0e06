-- What the parts of a shown term's run answer.
use Rattle.std.specs.Prelude.{◌≡◌, ◌⊎◌, ℕ, ◌≤◌, List, Some, Result, Ok, Err}
use Rattle.lego_base.specs.declared.place.Place.{Place}
use Rattle.lego_term.specs.Sequences.{Ends}
use Rattle.lego_term.specs.Trees.{Core}
use Rattle.lego_grammar.specs.Written.{Written}
use Rattle.lego_inference.specs.declared.entry.At.{At}
use Rattle.lego_inference.specs.declared.entry.Entry.{Entry as Item}
use Rattle.lego_inference.specs.declared.fault.TypeFault.{TypeFault}
use Rattle.lego_context.specs.Contexts.{Contents}
use Rattle.lego_context.specs.declared.context.typing.Settled.{Settled}
use Rattle.lego_reduce.specs.Reduction.{Reduces}
use Rattle.lego_reduce.specs.declared.fault.ReduceFault.{ReduceFault}
use Rattle.lego_reading.specs.Universes.{with_types_of}
use Rattle.lego_session.specs.commands.Show.{Form, IsTyped, HasNoType, HasNoForm, step_to}
use Rattle.lego_session.specs.commands.Show as show
use Rattle.lego_session.specs.declared.commands.show.Form.{Form as CodeForm}
use Rattle.lego_session.specs.declared.commands.show.Form.TheVariants as code
use Rattle.lego_session.specs.declared.refusal.Cause.TheVariants.{Memory}
use Rattle.lego_session.specs.declared.refusal.Reason.{Reason}
use Rattle.lego_session.specs.private.Refusals.{reduce_cause}

-- the term has no type so; want of memory is free
abbrev pub TypingFailsSo : (limit : ℕ) → Contents → Place → Written → Reason → Type 0
TypingFailsSo limit c place m reason = (reason.cause ≡ Memory) ⊎ HasNoType limit c place m reason.place reason.cause

-- the term and its typing over the context with its universes, or why it has none
abbrev pub TypesSo : Contents → Written → At → Contents → Result (Core × Settled) Reason → Type 0
TypesSo old m asked new (Ok found) = IsTyped old asked.place m found.0 found.1.judged found.1.values.items × (new ≡ with_types_of old m)
TypesSo old m asked new (Err reason) = TypingFailsSo asked.limit old asked.place m reason × ((new ≡ old) ⊎ (new ≡ with_types_of old m))

-- the form that is meant
abbrev pub form_of : CodeForm → Form
form_of code.Head = show.Head
form_of code.Normal = show.Normal

-- it isn't shown so; want of memory is free
abbrev pub FormFails : Form → (limit : ℕ) → Contents → Place → Written → Reason → Type 0
FormFails form limit c place m reason = (reason.cause ≡ Memory) ⊎ HasNoForm form limit c place m reason.place reason.cause

-- why the form of a term isn't reached
pub record IsNotReached (form : Form) (es : List Item) (core : Core) (asked : At) (reason : Reason) : Type 0 where
  pub fault : ReduceFault
  pub fails : Reduces (step_to form es) core asked.limit (Err fault)
  pub at : reason.place ≡ asked.place
  pub is_cause : reason.cause ≡ reduce_cause core fault

-- the form of a term, or why it isn't reached
abbrev pub ReachesForm : Form → List Item → Core → At → Result Core Reason → Type 0
ReachesForm form es core asked (Ok reached) = (steps : ℕ) × Ends (step_to form es) core steps reached × (steps ≤ asked.limit)
ReachesForm form es core asked (Err reason) = IsNotReached form es core asked reason
