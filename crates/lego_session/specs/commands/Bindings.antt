-- The effect of a context command, and why it is refused.
use Rattle.std.specs.Prelude.{◌≡◌, ℕ, ◌<◌, false, nat_eq, List, [], ◌∷◌, ◌++◌, take, length, slice_get, Option, Some, None}
use Rattle.std.specs.List.{list_any}
use Rattle.lego_base.specs.declared.place.Place.{Place}
use Rattle.lego_term.specs.Levels.{Assignment}
use Rattle.lego_term.specs.Trees.{Core}
use Rattle.lego_term.specs.declared.binder.Mark.{Mark}
use Rattle.lego_grammar.specs.Grammar.{Names}
use Rattle.lego_grammar.specs.Written.{Written, WrittenKind, Assumed, Defined, WrittenBinding}
use Rattle.lego_inference.specs.declared.entry.Entry.{Entry as Item}
use Rattle.lego_inference.specs.declared.fault.TypeFault.{TypeFault}
use Rattle.lego_context.specs.Causes.{AddFails}
use Rattle.lego_context.specs.Changes.{IsAssumed, IsDefined, type_task, body_task}
use Rattle.lego_context.specs.Contexts.{Contents}
use Rattle.lego_context.specs.Entries.{position_of}
use Rattle.lego_context.specs.Settling.{IsSettled}
use Rattle.lego_reading.specs.Calls.{IsCoreOf, IsUnread}
use Rattle.lego_reading.specs.Universes.{with_types_of}
use Rattle.lego_reading.specs.declared.fault.ReadFault.{ReadFault}
use Rattle.lego_session.specs.Causes.{read_place, read_cause, cause_of}
use Rattle.lego_session.specs.Sessions.{Session, context_of, entries_of, moved_to}
use Rattle.lego_session.specs.Texts.{AreEntryLines}
use Rattle.lego_session.specs.declared.refusal.Cause.{Cause}
use Rattle.lego_session.specs.declared.refusal.Cause.TheVariants.{NameInUse}

-- name i of a list is new: no entry has it, and it stands at no earlier place of the list
pub record IsNew (es : List Item) (ns : List ℕ) (i n : ℕ) : Type 0 where
  pub no_entry : position_of es n ≡ None
  pub first : list_any (nat_eq n) (take i ns) ≡ false

-- the first so many names of the list are new
abbrev pub FirstAreNew : List Item → List ℕ → ℕ → Type 0
FirstAreNew es ns count = (i n : ℕ) → i < count → slice_get ns i ≡ Some n → IsNew es ns i n

abbrev pub AreNew : List Item → List ℕ → Type 0
AreNew es ns = FirstAreNew es ns (length ns)

-- an assumption of the type for each of the names, one behind the other
pub data AssumesAll (mark : Mark) (ty : Core) (place : Place) : Contents → List ℕ → Contents → Type 0 where
  none : {c : Contents} → AssumesAll mark ty place c [] c
  more : {old mid new : Contents} {n : ℕ} {ns : List ℕ}
      → IsAssumed old n mark ty place mid → AssumesAll mark ty place mid ns new → AssumesAll mark ty place old (n ∷ ns) new

-- a definition is read: its body, and over what that leaves its written type, where it has one
pub data ReadsDefinition (old : Contents) (m : Written) : Option Written → Core → Option Core → Contents → Type 0 where
  untyped : {body : Core} → IsCoreOf old m body → ReadsDefinition old m None body None (with_types_of old m)
  typed : {t : Written} {body ty : Core} → IsCoreOf old m body → IsCoreOf (with_types_of old m) t ty
      → ReadsDefinition old m (Some t) body (Some ty) (with_types_of (with_types_of old m) t)

-- The entries that a binding at a place makes: its written type is read once, before the names; a definition has one name.
pub data MakesEntries (old : Contents) (place : Place) : List ℕ → WrittenKind → Contents → Type 0 where
  assumptions : {names : List ℕ} {mark : Mark} {t : Written} {ty : Core} {new : Contents}
      → IsCoreOf old t ty → AssumesAll mark ty place (with_types_of old t) names new → MakesEntries old place names (Assumed mark t) new
  definition : {name : ℕ} {m : Written} {t : Option Written} {body : Core} {ty : Option Core} {mid new : Contents}
      → ReadsDefinition old m t body ty mid → IsDefined mid name body ty place new → MakesEntries old place (name ∷ []) (Defined m t) new

-- a binding of new names makes its entries
pub record Binds (old : Contents) (b : WrittenBinding) (new : Contents) : Type 0 where
  pub new_names : AreNew old.entries b.names
  pub makes : MakesEntries old b.place b.names b.kind new

pub data BindsAll : Contents → List WrittenBinding → Contents → Type 0 where
  none : {c : Contents} → BindsAll c [] c
  more : {old mid new : Contents} {b : WrittenBinding} {bs : List WrittenBinding} → Binds old b mid → BindsAll mid bs new → BindsAll old (b ∷ bs) new

-- Why the entries of a binding at a place are refused, and where: a written term isn't read, a body before its written type; or an
-- entry isn't added to what the names before it made.
pub data AreEntriesRefused (limit : ℕ) (old : Contents) (place : Place) : List ℕ → WrittenKind → Place → Cause → Type 0 where
  type_unread : {names : List ℕ} {mark : Mark} {t : Written} {fault : ReadFault}
      → IsUnread old t limit fault → AreEntriesRefused limit old place names (Assumed mark t) (read_place fault place) (read_cause fault)
  assumption : {name : ℕ} (before after : List ℕ) {mark : Mark} {t : Written} {ty : Core} {mid : Contents} {fault : TypeFault}
      → IsCoreOf old t ty → AssumesAll mark ty place (with_types_of old t) before mid
      → AddFails mid.entries name (type_task mid ty) (record { place = place; limit = limit }) fault
      → AreEntriesRefused limit old place (before ++ name ∷ after) (Assumed mark t) place (cause_of fault)
  body_unread : {names : List ℕ} {m : Written} {t : Option Written} {fault : ReadFault}
      → IsUnread old m limit fault → AreEntriesRefused limit old place names (Defined m t) (read_place fault place) (read_cause fault)
  written_unread : {names : List ℕ} {m t : Written} {body : Core} {fault : ReadFault}
      → IsCoreOf old m body → IsUnread (with_types_of old m) t limit fault
      → AreEntriesRefused limit old place names (Defined m (Some t)) (read_place fault place) (read_cause fault)
  definition : {name : ℕ} {m : Written} {t : Option Written} {body : Core} {ty : Option Core} {mid : Contents} {fault : TypeFault}
      → ReadsDefinition old m t body ty mid
      → AddFails mid.entries name (body_task mid body ty) (record { place = place; limit = limit }) fault
      → AreEntriesRefused limit old place (name ∷ []) (Defined m t) place (cause_of fault)

-- why a binding is refused over a context, and where: the first name that isn't new, and then its entries
pub data IsBindingRefused (limit : ℕ) (old : Contents) (b : WrittenBinding) : Place → Cause → Type 0 where
  in_use : {n : ℕ} {p : Place} (i : ℕ) → FirstAreNew old.entries b.names i → slice_get b.names i ≡ Some n → slice_get b.places i ≡ Some p
      → (IsNew old.entries b.names i n → ⊥) → IsBindingRefused limit old b p (NameInUse n)
  entries : {p : Place} {cause : Cause} → AreNew old.entries b.names
      → AreEntriesRefused limit old b.place b.names b.kind p cause → IsBindingRefused limit old b p cause

-- the bindings before one are made, and that one is refused over the context then, whose entries are in scope
pub data AreRefused (limit : ℕ) : Contents → List WrittenBinding → List Item → Place → Cause → Type 0 where
  here : {old : Contents} {b : WrittenBinding} {bs : List WrittenBinding} {p : Place} {cause : Cause}
      → IsBindingRefused limit old b p cause → AreRefused limit old (b ∷ bs) old.entries p cause
  later : {old mid : Contents} {es : List Item} {b : WrittenBinding} {bs : List WrittenBinding} {p : Place} {cause : Cause}
      → Binds old b mid → AreRefused limit mid bs es p cause → AreRefused limit old (b ∷ bs) es p cause

-- An accepted context command moves the session to the context that its bindings make, and answers a line for each new entry, at the
-- least levels.
pub record AddsBindings (names : Names) (old : Session) (bs : List WrittenBinding) (text : List ℕ) (new : Session) : Type 0 where
  pub context : Contents
  pub binds : BindsAll (context_of old) bs context
  pub moves : new ≡ moved_to old context
  pub values : Assignment
  pub settled : IsSettled context [] context.levels values
  pub lines : AreEntryLines names values context.entries (length (entries_of old)) text
