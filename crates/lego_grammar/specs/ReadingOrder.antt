-- The order in which a written term is read, and why it is not read within the limits.
use Rattle.std.specs.Prelude.{◌≡◌, ℕ, List, [], ◌∷◌, true, false, Some, None}
use Rattle.lego_base.specs.declared.place.Place.{Place}
use Rattle.lego_term.specs.declared.binder.Mark.{Mark}
use Rattle.lego_term.specs.Trees.{Core}
use Rattle.lego_term.specs.Made.{Fits, Passes}
use Rattle.lego_laws.specs.Entries.{Entry}
use Rattle.lego_grammar.specs.declared.surface.Kind.{Kind}
use Rattle.lego_grammar.specs.declared.surface.Part.{Part}
use Rattle.lego_grammar.specs.Written.{Written}
use Rattle.lego_grammar.specs.Scopes.{LocalVariable, Scope, TypeVariables, local_named, entry_named}
use Rattle.lego_grammar.specs.Reading.{ReadsExplicitly, Annotates, under_first, is_sigma}

-- Reading comes from a written term, under a scope, to one of its parts, under its own scope. Parts are read left to right,
-- but the type of a pair first; `Before` holds of each part that is read before this one.
pub data Comes (es : List Entry) (types : TypeVariables) (Before : Scope → Written → Type 0) : Scope → Written → Scope → Written → Type 0 where
  here : {scope : Scope} {s : Written} → Comes es types Before scope s scope s
  domain : {scope inner : Scope} {kind : Kind} {mark : Mark} {names : List ℕ} {s t r : Written}
      → Comes es types Before scope s inner r → Comes es types Before scope (Written.Bind kind mark names s t) inner r
  nameless_body : {scope inner : Scope} {kind : Kind} {mark : Mark} {s t r : Written}
      → Before scope s → Comes es types Before (LocalVariable.Bound None ∷ scope) t inner r
      → Comes es types Before scope (Written.Bind kind mark [] s t) inner r
  named_body : {scope inner : Scope} {kind : Kind} {mark : Mark} {n : ℕ} {names : List ℕ} {s t r : Written}
      → Before scope s → Comes es types Before (LocalVariable.Bound (Some n) ∷ scope) (under_first kind mark names s t) inner r
      → Comes es types Before scope (Written.Bind kind mark (n ∷ names) s t) inner r
  value : {scope inner : Scope} {n : ℕ} {s t r : Written}
      → Comes es types Before scope s inner r → Comes es types Before scope (Written.Local n s t) inner r
  local_body : {scope inner : Scope} {n : ℕ} {s t r : Written} {m : Core}
      → Before scope s → ReadsExplicitly es types scope s m → Comes es types Before (LocalVariable.Defined n m ∷ scope) t inner r
      → Comes es types Before scope (Written.Local n s t) inner r
  function : {scope inner : Scope} {mark : Mark} {s t r : Written}
      → Comes es types Before scope s inner r → Comes es types Before scope (Written.Apply mark s t) inner r
  argument : {scope inner : Scope} {mark : Mark} {s t r : Written}
      → Before scope s → Comes es types Before scope t inner r → Comes es types Before scope (Written.Apply mark s t) inner r
  pair_type : {scope inner : Scope} {m n t r : Written}
      → Comes es types Before scope t inner r → Comes es types Before scope (Written.Pair m n t) inner r
  pair_first : {scope inner : Scope} {m n t r : Written} {c a : Core}
      → Before scope t → ReadsExplicitly es types scope t c → Annotates es scope c a → is_sigma a ≡ true
      → Comes es types Before scope m inner r → Comes es types Before scope (Written.Pair m n t) inner r
  pair_second : {scope inner : Scope} {m n t r : Written} {c a : Core}
      → Before scope t → ReadsExplicitly es types scope t c → Annotates es scope c a → is_sigma a ≡ true
      → Before scope m → Comes es types Before scope n inner r → Comes es types Before scope (Written.Pair m n t) inner r
  operand : {scope inner : Scope} {part : Part} {s r : Written}
      → Comes es types Before scope s inner r → Comes es types Before scope (Written.Project part s) inner r

-- a part of the written term, at whatever place
abbrev pub IsPart : List Entry → TypeVariables → Scope → Written → Scope → Written → Type 0
IsPart es types = Comes es types (λ scope s. Unit {0})

-- the written term is read as this core, and the core of each part passes no limit
pub record ReadsWithin (es : List Entry) (types : TypeVariables) (scope : Scope) (s : Written) (core : Core) : Type 0 where
  pub reads : ReadsExplicitly es types scope s core
  pub small : (inner : Scope) (r : Written) (c : Core)
      → IsPart es types scope s inner r → ReadsExplicitly es types inner r c → Fits c

-- reading comes to a part, and all before it is read within the limits
abbrev pub Reaches : List Entry → TypeVariables → Scope → Written → Scope → Written → Type 0
Reaches es types = Comes es types (λ scope s. (c : Core) × ReadsWithin es types scope s c)

-- why a written term is refused while it is read: a name or a `?n` at its place; the core of a pair's written type, with what is in
-- scope there; a core that passes a limit
pub data ReadingRefusal : Type 0 where
  UnknownName UnknownGoal : Place → ℕ → ReadingRefusal
  NotSigma : Scope → Core → ReadingRefusal
  TooLarge : Core → ReadingRefusal

-- A part is refused itself: it is a name that neither a local variable nor an entry has, or a `?n`, which stands for a goal;
-- neither the core of a pair's written type nor its head form is a Sigma type; or the part's core passes a limit, and is the only
-- core of its parts that does.
pub data Refuses (es : List Entry) (types : TypeVariables) : Scope → Written → ReadingRefusal → Type 0 where
  unknown_name : {scope : Scope} {p : Place} {n : ℕ}
      → local_named scope n ≡ None → entry_named es n ≡ None → Refuses es types scope (Written.Named p n) (UnknownName p n)
  unknown_goal : {scope : Scope} {p : Place} {n : ℕ} → Refuses es types scope (Written.GoalAt p n) (UnknownGoal p n)
  not_sigma : {scope : Scope} {m n t : Written} {c a : Core}
      → ReadsWithin es types scope t c → Annotates es scope c a → is_sigma a ≡ false
      → Refuses es types scope (Written.Pair m n t) (NotSigma scope c)
  too_large : {scope : Scope} {s : Written} {c : Core}
      → ReadsExplicitly es types scope s c → Passes c
      → ((inner : Scope) (r : Written) (d : Core)
      → IsPart es types scope s inner r → ReadsExplicitly es types inner r d → Passes d → d ≡ c)
      → Refuses es types scope s (TooLarge c)

-- reading reaches a part that is refused
pub record IsRefused (es : List Entry) (types : TypeVariables) (scope : Scope) (s : Written) (refusal : ReadingRefusal) : Type 0 where
  pub inner : Scope
  pub part : Written
  pub reached : Reaches es types scope s inner part
  pub refuses : Refuses es types inner part refusal
