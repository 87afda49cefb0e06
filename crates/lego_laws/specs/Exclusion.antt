-- Constraints that can't be satisfied.
use Rattle.std.specs.Prelude.{ℕ, List, map}
use Rattle.lego_term.specs.Levels.{Assignment, LevelPair, SatisfiesAll}
use Rattle.lego_term.specs.Trees.{Core, Term, at}
use Rattle.lego_laws.specs.Entries.{Entry, entries_at, kept}
use Rattle.lego_laws.specs.Judgement.{Has}
use Rattle.lego_laws.specs.Valid.{AlwaysValid}
use Rattle.lego_laws.specs.Fitting.{Fits, FitsWanted, FitsWritten}

-- no assignment satisfies the constraints and those kept with the entries
abbrev pub AreUnsolvable : List Entry → List LevelPair → Type 0
AreUnsolvable es k = (v : Assignment) → SatisfiesAll v (kept es) → SatisfiesAll v k → ⊥

-- over entries, a term whose fitting constraints are unsolvable has no type
abbrev pub UnsolvableTermsHaveNoType : Type 0
UnsolvableTermsHaveNoType =
    (es : List Entry) (g : List Core) (m a : Core) (k : List LevelPair) → Fits es g m a k → AreUnsolvable es k
    → (v : Assignment) → SatisfiesAll v (kept es) → (q : Term) → Has (entries_at v es) (map (at v) g) (at v m) q → ⊥

-- the same for a wanted type, which the term doesn't have
abbrev pub UnsolvableChecksHaveNoTyping : Type 0
UnsolvableChecksHaveNoTyping =
    (n n₁ : ℕ) (es : List Entry) (g : List Core) (m a : Core) (k : List LevelPair) → FitsWanted n n₁ es g m a k → AreUnsolvable es k
    → (v : Assignment) → SatisfiesAll v (kept es) → Has (entries_at v es) (map (at v) g) (at v m) (at v a) → ⊥

-- the same for a written type, over entries that are always valid
abbrev pub UnsolvableDefinitionsHaveNoTyping : Type 0
UnsolvableDefinitionsHaveNoTyping =
    (n n₁ : ℕ) (es : List Entry) → AlwaysValid es → (g : List Core) (m a : Core) (k : List LevelPair) → FitsWritten n n₁ es g m a k → AreUnsolvable es k
    → (v : Assignment) → SatisfiesAll v (kept es) → Has (entries_at v es) (map (at v) g) (at v m) (at v a) → ⊥
