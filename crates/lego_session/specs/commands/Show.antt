-- The effect of the commands that show a term, its head form or its normal form, and why they are refused.
use Rattle.std.specs.Prelude.{◌≡◌, ℕ, ◌≤◌, List, [], Option, Some, None}
use Rattle.lego_base.specs.declared.place.Place.{Place}
use Rattle.lego_term.specs.Levels.{Assignment}
use Rattle.lego_term.specs.Parts.{IsTooLarge}
use Rattle.lego_term.specs.Sequences.{after, Ends, MoreThan, head_step, normal_step}
use Rattle.lego_term.specs.Trees.{Core}
use Rattle.lego_laws.specs.Entries.{core_bodies}
use Rattle.lego_grammar.specs.Grammar.{Names}
use Rattle.lego_grammar.specs.Written.{Written}
use Rattle.lego_inference.specs.Entries.{laws_entries}
use Rattle.lego_inference.specs.declared.entry.Entry.{Entry as Item}
use Rattle.lego_inference.specs.declared.entry.Judged.{Judged}
use Rattle.lego_inference.specs.declared.fault.TypeFault.{TypeFault}
use Rattle.lego_context.specs.Calls.{IsInferred}
use Rattle.lego_context.specs.Causes.{TypingFails}
use Rattle.lego_context.specs.Contexts.{Contents}
use Rattle.lego_context.specs.Settling.{IsSettled}
use Rattle.lego_context.specs.Typed.{term_task}
use Rattle.lego_reading.specs.Calls.{IsCoreOf, IsUnread}
use Rattle.lego_reading.specs.Universes.{with_types_of}
use Rattle.lego_reading.specs.declared.fault.ReadFault.{ReadFault}
use Rattle.lego_session.specs.Causes.{read_place, read_cause, cause_of}
use Rattle.lego_session.specs.Texts.{IsTypingLine, IsTermLine}
use Rattle.lego_session.specs.declared.refusal.Cause.{Cause}
use Rattle.lego_session.specs.declared.refusal.Cause.TheVariants.{Budget, TooLarge}

-- The written term is read over the context, and typed, with the least levels under the context's constraints and its own.
pub record IsTyped (c : Contents) (place : Place) (m : Written) (core : Core) (judged : Judged) (values : Assignment) : Type 0 where
  pub read : IsCoreOf c m core
  pub inferred : IsInferred (with_types_of c m) [] core place judged
  pub settled : IsSettled (with_types_of c m) judged.constraints judged.levels values

-- the answer is the term and its type
pub record ShowsType (names : Names) (c : Contents) (place : Place) (m : Written) (text : List ℕ) : Type 0 where
  pub core : Core
  pub judged : Judged
  pub values : Assignment
  pub typed : IsTyped c place m core judged values
  pub line : IsTypingLine names values c.entries core judged.ty text

-- why the term has no type: it isn't read, or its typing is refused
pub data HasNoType (limit : ℕ) (c : Contents) (place : Place) (m : Written) : Place → Cause → Type 0 where
  unread : {fault : ReadFault} → IsUnread c m limit fault → HasNoType limit c place m (read_place fault place) (read_cause fault)
  untyped : {core : Core} {fault : TypeFault} → IsCoreOf c m core
      → TypingFails (with_types_of c m).entries (term_task (with_types_of c m) core) (record { place = place; limit = limit }) fault
      → HasNoType limit c place m place (cause_of fault)

-- what is shown of a term besides its type
pub data Form : Type 0 where
  Head Normal : Form

-- the next step to that form, over entries
abbrev pub step_to : Form → List Item → Core → Option Core
step_to Head es = head_step (core_bodies (laws_entries es))
step_to Normal es = normal_step (core_bodies (laws_entries es))

-- the term has a type, and the answer is where its sequence of steps ends, within the limit
pub record ShowsForm (form : Form) (names : Names) (limit : ℕ) (c : Contents) (place : Place) (m : Written) (text : List ℕ) : Type 0 where
  pub core : Core
  pub judged : Judged
  pub values : Assignment
  pub typed : IsTyped c place m core judged values
  pub steps : ℕ
  pub reached : Core
  pub ends : Ends (step_to form c.entries) core steps reached
  pub within : steps ≤ limit
  pub line : IsTermLine names values c.entries reached text

-- Why the form isn't shown: the term has no type; or it has one, and its sequence has more steps than the limit, or reaches within
-- the limit a term that is too large.
pub data HasNoForm (form : Form) (limit : ℕ) (c : Contents) (place : Place) (m : Written) : Place → Cause → Type 0 where
  no_type : {p : Place} {cause : Cause} → HasNoType limit c place m p cause → HasNoForm form limit c place m p cause
  budget : {core : Core} {judged : Judged} {values : Assignment} → IsTyped c place m core judged values
      → MoreThan (step_to form c.entries) core limit → HasNoForm form limit c place m place (Budget (record { under = []; term = core }) None)
  too_large : {core u : Core} {judged : Judged} {values : Assignment} {i j : ℕ} (n : ℕ) → IsTyped c place m core judged values
      → n ≤ limit → after (step_to form c.entries) n core ≡ Some u → IsTooLarge u i j → HasNoForm form limit c place m place (TooLarge i j)
