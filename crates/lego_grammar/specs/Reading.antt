-- What a written term is read as in explicit mode, in which nothing is inserted.
use Rattle.std.specs.Prelude.{◌≡◌, ℕ, List, [], ◌∷◌, Bool, true, false, Option, Some, None}
use Rattle.lego_base.specs.declared.place.Place.{Place}
use Rattle.lego_term.specs.Levels.{fixed_level, variable_level}
use Rattle.lego_term.specs.declared.binder.Binder.{Binder}
use Rattle.lego_term.specs.declared.binder.Mark.{Mark}
use Rattle.lego_term.specs.declared.binder.Mark.TheVariants.{Plain}
use Rattle.lego_term.specs.Trees.{Core, Var, Const, Prop, Univ, Pi, Lam, App, Sigma, Pair, Fst, Snd, Let}
use Rattle.lego_term.specs.Sequences.{HeadForm}
use Rattle.lego_laws.specs.Entries.{Entry, core_bodies}
use Rattle.lego_grammar.specs.declared.surface.Kind.{Kind}
use Rattle.lego_grammar.specs.declared.surface.Part.{Part}
use Rattle.lego_grammar.specs.Written.{Written}
use Rattle.lego_grammar.specs.Scopes.{LocalVariable, Scope, TypeVariables, local_named, entry_named, put_values}

abbrev pub binder : Option ℕ → Mark → Binder
binder name mark = record { name = name; mark = mark }

-- the core of a binder
abbrev pub bind_core : Kind → Binder → Core → Core → Core
bind_core Kind.Lambda x a b = Lam x a b
bind_core Kind.Pi x a b = Pi x a b
bind_core Kind.Sigma x a b = Sigma x a b

-- the core of a projection
abbrev pub project_core : Part → Core → Core
project_core Part.First m = Fst m
project_core Part.Second m = Snd m

-- what is under the first name of a binder: the same binder of the other names, or its body
abbrev pub under_first : Kind → Mark → List ℕ → Written → Written → Written
under_first kind mark [] domain body = body
under_first kind mark (n ∷ names) domain body = Written.Bind kind mark (n ∷ names) domain body

abbrev pub is_sigma : Core → Bool
is_sigma (Sigma x a b) = true
is_sigma _ = false

-- What annotates a pair whose written type has this core: the core, where it is a Sigma type, else its head form, taken
-- with the values of local definitions put for their variables.
pub data Annotates (es : List Entry) (scope : Scope) : Core → Core → Type 0 where
  core : {t : Core} → is_sigma t ≡ true → Annotates es scope t t
  head_form : {t h : Core} → is_sigma t ≡ false → HeadForm (core_bodies es) (put_values scope 0 t) h → Annotates es scope t h

-- The written term is read as this core, over the entries and the local variables in scope. `?n` is read as nothing: it
-- stands for a goal.
pub data ReadsExplicitly (es : List Entry) (types : TypeVariables) : Scope → Written → Core → Type 0 where
  local : {scope : Scope} {p : Place} {n i : ℕ}
      → local_named scope n ≡ Some i → ReadsExplicitly es types scope (Written.Named p n) (Var i)
  entry : {scope : Scope} {p : Place} {n : ℕ} {e : Entry}
      → local_named scope n ≡ None → entry_named es n ≡ Some e → ReadsExplicitly es types scope (Written.Named p n) (Const e.number)
  prop : {scope : Scope} → ReadsExplicitly es types scope Written.WrittenProp Prop
  any_type : {scope : Scope} {p : Place} {u : ℕ}
      → types p ≡ Some u → ReadsExplicitly es types scope (Written.AnyType p) (Univ (variable_level u))
  type_at : {scope : Scope} {n : ℕ} → ReadsExplicitly es types scope (Written.TypeAt n) (Univ (fixed_level n))
  nameless : {scope : Scope} {kind : Kind} {mark : Mark} {s t : Written} {a b : Core}
      → ReadsExplicitly es types scope s a → ReadsExplicitly es types (LocalVariable.Bound None ∷ scope) t b
      → ReadsExplicitly es types scope (Written.Bind kind mark [] s t) (bind_core kind (binder None mark) a b)
  named : {scope : Scope} {kind : Kind} {mark : Mark} {n : ℕ} {names : List ℕ} {s t : Written} {a b : Core}
      → ReadsExplicitly es types scope s a
      → ReadsExplicitly es types (LocalVariable.Bound (Some n) ∷ scope) (under_first kind mark names s t) b
      → ReadsExplicitly es types scope (Written.Bind kind mark (n ∷ names) s t) (bind_core kind (binder (Some n) mark) a b)
  local_definition : {scope : Scope} {n : ℕ} {s t : Written} {m b : Core}
      → ReadsExplicitly es types scope s m → ReadsExplicitly es types (LocalVariable.Defined n m ∷ scope) t b
      → ReadsExplicitly es types scope (Written.Local n s t) (Let (binder (Some n) Plain) m b)
  apply : {scope : Scope} {mark : Mark} {s t : Written} {f a : Core}
      → ReadsExplicitly es types scope s f → ReadsExplicitly es types scope t a
      → ReadsExplicitly es types scope (Written.Apply mark s t) (App mark f a)
  pair : {scope : Scope} {x : Binder} {r s t : Written} {c a b m n : Core}
      → ReadsExplicitly es types scope t c → Annotates es scope c (Sigma x a b)
      → ReadsExplicitly es types scope r m → ReadsExplicitly es types scope s n
      → ReadsExplicitly es types scope (Written.Pair r s t) (Pair x a b m n)
  project : {scope : Scope} {part : Part} {s : Written} {m : Core}
      → ReadsExplicitly es types scope s m → ReadsExplicitly es types scope (Written.Project part s) (project_core part m)
