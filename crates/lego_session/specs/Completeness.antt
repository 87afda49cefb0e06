-- The commands that limits alone can refuse.
use Rattle.std.specs.Prelude.{◌≡◌, ℕ, List, [], ◌∷◌, ◌++◌, Option}
use Rattle.lego_base.specs.declared.place.Place.{Place}
use Rattle.lego_term.specs.Levels.{Assignment, SatisfiesAll}
use Rattle.lego_term.specs.Trees.{Core}
use Rattle.lego_term.specs.declared.binder.Mark.{Mark}
use Rattle.lego_laws.specs.Entries.{kept}
use Rattle.lego_laws.specs.Places.{Task}
use Rattle.lego_laws.specs.Shape.{IsTyped}
use Rattle.lego_grammar.specs.Written.{Written, WrittenKind, Assumed, Defined, WrittenBinding, WrittenAct, Bindings, Hnf, Normal, Show}
use Rattle.lego_inference.specs.declared.entry.Entry.{Entry as Item}
use Rattle.lego_context.specs.Changes.{type_task, body_task}
use Rattle.lego_context.specs.Contexts.{Contents}
use Rattle.lego_context.specs.Typed.{term_task}
use Rattle.lego_reading.specs.Calls.{IsCoreOf}
use Rattle.lego_reading.specs.Universes.{with_types_of}
use Rattle.lego_session.specs.Sessions.{Session, context_of}
use Rattle.lego_session.specs.Step.{IsRefused}
use Rattle.lego_session.specs.commands.Bindings.{AreNew, AssumesAll, ReadsDefinition, Binds}
use Rattle.lego_session.specs.declared.refusal.Cause.{Cause}
use Rattle.lego_session.specs.declared.refusal.Cause.TheVariants.{Budget, TooLarge, LevelTooBig, Full, Memory}

-- a limit of steps, of sizes, of levels or of what is held, or memory
abbrev pub IsOfLimits : Cause → Type 0
IsOfLimits (Budget left right) = Unit {0}
IsOfLimits (TooLarge size depth) = Unit {0}
IsOfLimits (LevelTooBig constraint needed) = Unit {0}
IsOfLimits (Full of held) = Unit {0}
IsOfLimits Memory = Unit {0}
IsOfLimits _ = ⊥

-- some assignment that satisfies the constraints held gives the core its typing
pub record HasTyping (t : Task) : Type 0 where
  pub values : Assignment
  pub satisfies : SatisfiesAll values (kept t.entries)
  pub typed : IsTyped t values

-- The written terms of a binding at a place are read, and each of its entries has a typing behind those of the names before.
pub data AreTypedEntries (old : Contents) (place : Place) : List ℕ → WrittenKind → Type 0 where
  assumptions : {names : List ℕ} {mark : Mark} {t : Written} {ty : Core} → IsCoreOf old t ty
      → ((before after : List ℕ) (name : ℕ) (mid : Contents) → names ≡ before ++ name ∷ after
      → AssumesAll mark ty place (with_types_of old t) before mid → HasTyping (type_task mid ty))
      → AreTypedEntries old place names (Assumed mark t)
  definition : {name : ℕ} {m : Written} {t : Option Written} {body : Core} {ty : Option Core} {mid : Contents}
      → ReadsDefinition old m t body ty mid → HasTyping (body_task mid body ty) → AreTypedEntries old place (name ∷ []) (Defined m t)

-- a binding of new names whose entries have typings
pub record IsTypedBinding (old : Contents) (b : WrittenBinding) : Type 0 where
  pub new_names : AreNew old.entries b.names
  pub entries : AreTypedEntries old b.place b.names b.kind

-- so is each of the bindings, behind those before
pub data AreTypedBindings : Contents → List WrittenBinding → Type 0 where
  none : {c : Contents} → AreTypedBindings c []
  more : {old : Contents} {b : WrittenBinding} {bs : List WrittenBinding}
      → IsTypedBinding old b → ((mid : Contents) → Binds old b mid → AreTypedBindings mid bs) → AreTypedBindings old (b ∷ bs)

-- the written term is read, and has a type
pub record IsTypedTerm (c : Contents) (m : Written) : Type 0 where
  pub core : Core
  pub read : IsCoreOf c m core
  pub typing : HasTyping (term_task (with_types_of c m) core)

-- the bindings or the term of a command have typings over a context
abbrev pub IsTypedAct : Contents → WrittenAct → Type 0
IsTypedAct c (Bindings bs) = AreTypedBindings c bs
IsTypedAct c (Hnf m) = IsTypedTerm c m
IsTypedAct c (Normal m) = IsTypedTerm c m
IsTypedAct c (Show m) = IsTypedTerm c m
IsTypedAct c _ = ⊥

-- such a command is refused for limits alone
abbrev pub TypedCommandsMeetLimitsAlone : Type 0
TypedCommandsMeetLimitsAlone =
    (limit : ℕ) (old : Session) (first p : Place) (act : WrittenAct) (es : List Item) (cause : Cause)
    → IsTypedAct (context_of old) act → IsRefused limit old first act es p cause → IsOfLimits cause
