-- One step of a session: what an accepted command makes of it, and why a command is refused.
use Rattle.std.specs.Prelude.{◌≡◌, ◌⊎◌, ℕ, ◌≤◌, Bool, true, false, List, [], length, Some}
use Rattle.lego_base.specs.declared.place.Place.{Place}
use Rattle.lego_grammar.specs.Grammar.{Names}
use Rattle.lego_grammar.specs.Written.{WrittenBinding, WrittenAct, Bindings, Hnf, Normal, Show, Undo, Forget, Ctxt, WrittenCommand}
use Rattle.lego_inference.specs.declared.entry.Entry.{Entry as Item}
use Rattle.lego_context.specs.Entries.{position_of}
use Rattle.lego_session.specs.Refusals.{refusal_text}
use Rattle.lego_session.specs.Sessions.{Session, context_of, entries_of}
use Rattle.lego_session.specs.commands.Bindings.{AddsBindings, AreRefused}
use Rattle.lego_session.specs.commands.Show as show
use Rattle.lego_session.specs.commands.Show.{ShowsType, HasNoType, ShowsForm, HasNoForm}
use Rattle.lego_session.specs.commands.Undo.{TakesBack, IsTooFar}
use Rattle.lego_session.specs.commands.Forget.{Forgets, IsUnknown}
use Rattle.lego_session.specs.commands.Ctxt.{ShowsContext}
use Rattle.lego_session.specs.declared.refusal.Cause.{Cause}
use Rattle.lego_session.specs.declared.refusal.Cause.TheVariants.{Memory}

-- what a command is answered: its text, and whether it is refused
pub record Reply : Type 0 where
  pub refused : Bool
  pub text : List ℕ

-- What an accepted command, whose first token stands at a place, answers, and the session that it leaves. No command of another
-- form is accepted so far.
abbrev pub Accepts : (names : Names) (limit : ℕ) → Session → Place → WrittenAct → List ℕ → Session → Type 0
Accepts names limit old first (Bindings bs) text new = AddsBindings names old bs text new
Accepts names limit old first (Hnf m) text new = (new ≡ old) × ShowsForm show.Head names limit (context_of old) first m text
Accepts names limit old first (Normal m) text new = (new ≡ old) × ShowsForm show.Normal names limit (context_of old) first m text
Accepts names limit old first (Show m) text new = (new ≡ old) × ShowsType names (context_of old) first m text
Accepts names limit old first (Undo n) text new = TakesBack old n text new
Accepts names limit old first (Forget x) text new = Forgets old x.name text new
Accepts names limit old first Ctxt text new = (new ≡ old) × ShowsContext names (context_of old) text
Accepts names limit old first _ text new = ⊥

-- why a command, whose first token stands at a place, is refused, where, and which entries are in scope there
abbrev pub IsRefused : (limit : ℕ) → Session → Place → WrittenAct → List Item → Place → Cause → Type 0
IsRefused limit old first (Bindings bs) es p cause = AreRefused limit (context_of old) bs es p cause
IsRefused limit old first (Hnf m) es p cause = (es ≡ entries_of old) × HasNoForm show.Head limit (context_of old) first m p cause
IsRefused limit old first (Normal m) es p cause = (es ≡ entries_of old) × HasNoForm show.Normal limit (context_of old) first m p cause
IsRefused limit old first (Show m) es p cause = (es ≡ entries_of old) × HasNoType limit (context_of old) first m p cause
IsRefused limit old first (Undo n) es p cause = (es ≡ entries_of old) × (p ≡ first) × IsTooFar old n cause
IsRefused limit old first (Forget x) es p cause = (es ≡ entries_of old) × (p ≡ x.place) × IsUnknown old x.name cause
IsRefused limit old first _ es p cause = ⊥

-- One step, over a numbering of names and with this limit of steps for one comparison or reduction. A refused command changes
-- nothing; want of memory is no refusal.
pub data Step (names : Names) (limit : ℕ) : Session → WrittenCommand → Reply → Session → Type 0 where
  accepted : {old new : Session} {o : WrittenCommand} {text : List ℕ}
      → Accepts names limit old o.place o.act text new → Step names limit old o (record { refused = false; text = text }) new
  refused : {old : Session} {o : WrittenCommand} (p : Place) (cause : Cause) (es : List Item)
      → IsRefused limit old o.place o.act es p cause → (cause ≡ Memory → ⊥)
      → Step names limit old o (record { refused = true; text = refusal_text names es p cause }) old

-- why a command is refused, and the text of that; want of memory is free, and has no text
abbrev pub IsRefusal : Names → (limit : ℕ) → Session → WrittenCommand → Place → Cause → List ℕ → Type 0
IsRefusal names limit old o p cause text =
    ((cause ≡ Memory) × (text ≡ []))
    ⊎ ((es : List Item) × IsRefused limit old o.place o.act es p cause × (cause ≡ Memory → ⊥) × (text ≡ refusal_text names es p cause))

-- whether an accepted command counts as a step for Undo
abbrev pub counts : WrittenAct → Bool
counts (Bindings bs) = true
counts (Forget x) = true
counts _ = false

-- the commands that only want of memory can refuse in this session
abbrev pub IsFeasible : Session → WrittenAct → Type 0
IsFeasible s (Undo n) = n ≤ length s.history
IsFeasible s (Forget x) = (i : ℕ) × (position_of (entries_of s) x.name ≡ Some i)
IsFeasible s Ctxt = Unit {0}
IsFeasible s _ = ⊥

-- the bindings of a context command
abbrev pub bindings_of : WrittenAct → List WrittenBinding
bindings_of (Bindings bs) = bs
bindings_of _ = []
