-- The corresponding pair of two terms: the first parts of their normal forms, left to right, that don't agree.
use Rattle.std.specs.Prelude.{◌≡◌, ℕ, ◌<◌, List, [], ◌∷◌, Option, Some, None, IsFalse, slice_get}
use Rattle.lego_term.specs.declared.binder.Binder.{Binder}
use Rattle.lego_term.specs.Trees.{Core}
use Rattle.lego_term.specs.Parts.{Shape, shape_of, Branch, parts_of}
use Rattle.lego_term.specs.Sequences.{HeadForm, NormalForm}
use Rattle.lego_laws.specs.Parallel.{CoreBodies}
use Rattle.lego_match.specs.Agreement.{Agree, AgreeIn}
use Rattle.lego_match.specs.Holes.{FreeHoles, has_free_head}

-- their parts before the numbered one agree
abbrev pub AgreeBefore : CoreBodies → ℕ → Core → Core → Type 0
AgreeBefore b i h k =
    (j : ℕ) (l r : Branch) → j < i → slice_get (parts_of h) j ≡ Some l → slice_get (parts_of k) j ≡ Some r → AgreeIn b l.term r.term

-- the binders, the outermost first, inside the one of a part, if it has one
abbrev pub inside : Option Binder → List Binder → List Binder
inside None xs = xs
inside (Some x) xs = x ∷ xs

-- From two terms, one path of parts leads to p and q, which are normal forms that don't agree. At each turn of the path both
-- sides are brought to head form; no free hole stands at the head of either, both have one form, and the parts before the one that
-- is taken agree. The binders are those of the left side on the path, the outermost first.
pub data Corresponds (b : CoreBodies) (free : FreeHoles) : Core → Core → List Binder → Core → Core → Type 0 where
  here : {t u p q : Core} → NormalForm b t p → NormalForm b u q → (Agree p q → ⊥) → Corresponds b free t u [] p q
  turn : {t u h k p q : Core} {s : Shape} {l r : Branch} {xs : List Binder} (i : ℕ)
      → HeadForm b t h → HeadForm b u k → IsFalse (has_free_head free h) → IsFalse (has_free_head free k)
      → shape_of h ≡ Some s → shape_of k ≡ Some s → slice_get (parts_of h) i ≡ Some l → slice_get (parts_of k) i ≡ Some r
      → AgreeBefore b i h k → Corresponds b free l.term r.term xs p q → Corresponds b free t u (inside l.under xs) p q

-- the corresponding pair of two terms is that of their normal forms, where both have one
abbrev pub PairsAreOfNormalForms : Type 0
PairsAreOfNormalForms =
    (b : CoreBodies) (free : FreeHoles) (t u p q t' u' : Core) (xs : List Binder)
    → Corresponds b free t u xs p q → NormalForm b t t' → NormalForm b u u' → Corresponds b free t' u' xs p q

-- the rule goes into the parts of the two: no free hole stands at the head of either, and both have one form
abbrev pub GoesIntoParts : FreeHoles → Core → Core → Type 0
GoesIntoParts free p q =
    IsFalse (has_free_head free p) × IsFalse (has_free_head free q) × (s : Shape) × (shape_of p ≡ Some s) × (shape_of q ≡ Some s)

-- at most one corresponding pair of two terms is such that the rule doesn't go into its parts
abbrev pub PairsAreOne : Type 0
PairsAreOne =
    (b : CoreBodies) (free : FreeHoles) (t u p q p' q' : Core) (xs ys : List Binder)
    → Corresponds b free t u xs p q → (GoesIntoParts free p q → ⊥)
    → Corresponds b free t u ys p' q' → (GoesIntoParts free p' q' → ⊥) → (xs ≡ ys) × (p ≡ p') × (q ≡ q')

-- two terms with a corresponding pair don't agree
abbrev pub PairsDisagree : Type 0
PairsDisagree = (b : CoreBodies) (free : FreeHoles) (t u p q : Core) (xs : List Binder) → Corresponds b free t u xs p q → AgreeIn b t u → ⊥
