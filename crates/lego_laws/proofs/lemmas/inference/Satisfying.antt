-- Lists of constraints that an assignment satisfies, or that values of levels put in order.
use Rattle.std.proofs.Common.{ℕ, ◌≤◌, List, [], ◌∷◌, ◌++◌}
use Rattle.std.specs.List.{AllByRecursion}
use Rattle.lego_term.specs.declared.level.Level.{Level}
use Rattle.lego_term.specs.Levels.{Assignment, LevelPair, SatisfiesAll, level_value}

-- each pair is in order where the levels have these values
abbrev pub InOrder : (Level → ℕ) → List LevelPair → Type 0
InOrder value pairs = AllByRecursion (λ c. value c.low ≤ value c.high) pairs

pub in_order_front : (value : Level → ℕ) (k l : List LevelPair) → InOrder value (k ++ l) → InOrder value k
in_order_front value [] l h = tt
in_order_front value (c ∷ k) l h = (h.0, in_order_front value k l h.1)

pub in_order_back : (value : Level → ℕ) (k l : List LevelPair) → InOrder value (k ++ l) → InOrder value l
in_order_back value [] l h = h
in_order_back value (c ∷ k) l h = in_order_back value k l h.1

pub satisfies_append : (v : Assignment) (k l : List LevelPair) → SatisfiesAll v k → SatisfiesAll v l → SatisfiesAll v (k ++ l)
satisfies_append v [] l h i = i
satisfies_append v (c ∷ k) l h i = (h.0, satisfies_append v k l h.1 i)

pub satisfies_front : (v : Assignment) (k l : List LevelPair) → SatisfiesAll v (k ++ l) → SatisfiesAll v k
satisfies_front v k l h = in_order_front (level_value v) k l h

pub satisfies_back : (v : Assignment) (k l : List LevelPair) → SatisfiesAll v (k ++ l) → SatisfiesAll v l
satisfies_back v k l h = in_order_back (level_value v) k l h
