-- Bodies for free holes, and what they leave of a clash.
use Rattle.std.specs.Prelude.{◌≡◌, ℕ, List, Some, None}
use Rattle.lego_term.specs.declared.binder.Binder.{Binder}
use Rattle.lego_term.specs.Trees.{Core}
use Rattle.lego_laws.specs.Parallel.{CoreBodies}
use Rattle.lego_match.specs.Agreement.{AgreeIn}
use Rattle.lego_match.specs.Holes.{FreeHoles}
use Rattle.lego_match.specs.Pairs.{Corresponds}
use Rattle.lego_match.specs.Answers.{Clashes}

-- the bodies b' are b with bodies for some of the free holes that have none
pub record Fills (free : FreeHoles) (b b' : CoreBodies) : Type 0 where
  pub kept : (k : ℕ) (m : Core) → b k ≡ Some m → b' k ≡ Some m
  pub others : (k : ℕ) → free k ≡ None → b' k ≡ b k

-- where the corresponding pair of two terms clashes, they agree under no bodies of the free holes
abbrev pub ClashesAreFinal : Type 0
ClashesAreFinal =
    (b b' : CoreBodies) (free : FreeHoles) (t u p q : Core) (xs : List Binder)
    → Fills free b b' → Corresponds b free t u xs p q → Clashes free p q → AgreeIn b' t u → ⊥
