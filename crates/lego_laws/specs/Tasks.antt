-- Constraints that fit a task, by what is wanted of its core.
use Rattle.std.specs.Prelude.{◌≡◌, ℕ, ◌+◌, ◌≤◌, List, map}
use Rattle.lego_term.specs.Levels.{Assignment, LevelPair, SatisfiesAll}
use Rattle.lego_term.specs.Trees.{Core, Term, Univ, at}
use Rattle.lego_laws.specs.Entries.{Entry, entries_at, kept}
use Rattle.lego_laws.specs.Judgement.{Has, IsType}
use Rattle.lego_laws.specs.Valid.{AlwaysValid}
use Rattle.lego_laws.specs.Fitting.{FitsRule, FitsWanted, FitsWritten, FitsType, top}
use Rattle.lego_laws.specs.Principal.{AreSmall, HasSmallSolution}
use Rattle.lego_laws.specs.Exclusion.{AreUnsolvable}
use Rattle.lego_laws.specs.Places.{Aim, AnyType, BeAType, OfType, OfWrittenType, want_of, Task, allowance}
use Rattle.lego_laws.specs.Shape.{Meets, IsTyped}

-- k fits the core by its rule type, as a type, for the wanted type, or for the written type, where the new level variables are
-- those from n on below n'
abbrev pub FitsAim : ℕ → ℕ → List Entry → List Core → Core → List LevelPair → Aim → Type 0
FitsAim n n' es g m k AnyType = (a : Core) × FitsRule n n' es g m a k
FitsAim n n' es g m k BeAType = FitsType n n' es g m k
FitsAim n n' es g m k (OfType a) = FitsWanted n n' es g m a k
FitsAim n n' es g m k (OfWrittenType a) = FitsWritten n n' es g m a k

-- the new level variables are the numbers of the task's nodes
abbrev pub FitsTask : Task → List LevelPair → Type 0
FitsTask t k = FitsAim t.site.first (t.site.first + allowance t) t.entries t.site.types t.core k t.aim

-- the core has the typing that is wanted of it, and a type that is written with it is a type, by derivations whose universes
-- are at most a limit
pub record IsTypedWithin (limit : ℕ) (t : Task) (v : Assignment) : Type 0 where
  pub type : Term
  pub wanted : Meets v (want_of t.aim) type
  pub has : Has (entries_at v t.entries) (map (at v) t.site.types) (at v t.core) type
  pub small : top has ≤ limit
  pub written : (a : Core) → t.aim ≡ OfWrittenType a
      → (j : ℕ) × (d : Has (entries_at v t.entries) (map (at v) t.site.types) (at v a) (Univ j)) × (top d ≤ limit)

-- where no assignment satisfies fitting constraints together with the kept ones, the task has no typing
abbrev pub UnsolvableTasksHaveNoTyping : Type 0
UnsolvableTasksHaveNoTyping =
    (t : Task) (k : List LevelPair) → AlwaysValid t.entries → FitsTask t k → AreUnsolvable t.entries k
    → (v : Assignment) → SatisfiesAll v (kept t.entries) → IsTyped t v → ⊥

-- a typing with universes up to a limit, at values up to it, has fitting values up to it
abbrev pub SmallTasksHaveSmallSolutions : Type 0
SmallTasksHaveSmallSolutions =
    (t : Task) (k : List LevelPair) → FitsTask t k → (limit : ℕ) (v : Assignment) → SatisfiesAll v (kept t.entries) → AreSmall limit v
    → IsTypedWithin limit t v → HasSmallSolution limit t.entries k

-- what fits as a type is a type, at each assignment that satisfies the kept constraints and the fitting ones
abbrev pub FittingTypesAreTypes : Type 0
FittingTypesAreTypes =
    (n n₁ : ℕ) (es : List Entry) → AlwaysValid es → (g : List Core) (a : Core) (k : List LevelPair) → FitsType n n₁ es g a k
    → (v : Assignment) → SatisfiesAll v (kept es) → SatisfiesAll v k → IsType (entries_at v es) (map (at v) g) (at v a)
