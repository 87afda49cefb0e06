-- Sets of constraints: the pairs that the rules see, cycles, and least values.
use Rattle.std.specs.Prelude.{◌≡◌, ℕ, ◌<◌, ◌≤◌, ◌⊎◌, ◌+◌, ◌++◌, List, [], ◌∷◌, map, Option, Some, None, sum_by, get_or, Contains}
use Rattle.std.specs.List.{AllByRecursion}
use Rattle.lego_term.specs.Levels.{Assignment, LevelPair, SatisfiesAll, fixed_level, variable_level}
use Rattle.lego_level.specs.Limits.{MAX_VALUE}
use Rattle.lego_level.specs.declared.constraint.Constraint.{Constraint}

-- a constraint as the rules see it
abbrev pub pair_of : Constraint → LevelPair
pair_of c = record { low = c.low; high = c.high }

abbrev pub pairs_of : List Constraint → List LevelPair
pairs_of = map pair_of

-- the constraint 0 <= u
abbrev pub implied : ℕ → Constraint
implied u = record { low = fixed_level 0; high = variable_level u; place = None }

-- each constraint begins at the node to which the one before it came, and the last comes to `end`
abbrev pub IsWalk : Option ℕ → List Constraint → Option ℕ → Type 0
IsWalk from [] end = from ≡ end
IsWalk from (c ∷ cs) end = (c.low.base ≡ from) × IsWalk c.high.base cs end

-- the items differ from one another
abbrev pub Differ : {X : Type 0} → List X → Type 0
Differ [] = Unit {0}
Differ (x ∷ xs) = AllByRecursion (λ y. x ≡ y → ⊥) xs × Differ xs

-- a closed walk that meets no node twice, and has a positive total
pub record IsClosedWalk (from : Option ℕ) (cs : List Constraint) : Type 0 where
  pub closed : IsWalk from cs from
  pub once : Differ (map (λ d. d.low.base) cs)
  pub positive : sum_by (λ d. d.high.plus) cs < sum_by (λ d. d.low.plus) cs

-- the constraint is one of the list, or implied
abbrev pub IsKnown : List Constraint → Constraint → Type 0
IsKnown cs c = Contains cs c ⊎ ((u : ℕ) × (c ≡ implied u))

-- a cycle of listed and implied constraints
pub record IsCycle (cs cycle : List Constraint) : Type 0 where
  pub from : Option ℕ
  pub walk : IsClosedWalk from cycle
  pub known : (c : Constraint) → Contains cycle c → IsKnown cs c

abbrev pub CanBeSatisfied : List Constraint → Type 0
CanBeSatisfied cs = (v : Assignment) × SatisfiesAll v (pairs_of cs)

-- some assignment of values up to 1,000,000 satisfies the constraints
abbrev pub CanBeSatisfiedWithin : List Constraint → Type 0
CanBeSatisfiedWithin cs = (v : Assignment) × SatisfiesAll v (pairs_of cs) × ((u : ℕ) → get_or v u 0 ≤ MAX_VALUE)

-- v satisfies the constraints, and each assignment that does has values at least as great
pub record IsLeast (cs : List Constraint) (v : Assignment) : Type 0 where
  pub satisfies : SatisfiesAll v (pairs_of cs)
  pub least : (w : Assignment) → SatisfiesAll w (pairs_of cs) → (u : ℕ) → get_or v u 0 ≤ get_or w u 0

-- a walk of known constraints from the zero node to u that meets no node twice, and whose total is `needed`; so u is at least this
pub record IsForcing (cs walk : List Constraint) (u needed : ℕ) : Type 0 where
  pub leads : IsWalk None walk (Some u)
  pub once : Differ (Some u ∷ map (λ d. d.low.base) walk)
  pub total : sum_by (λ d. d.high.plus) walk + needed ≡ sum_by (λ d. d.low.plus) walk
  pub known : (c : Constraint) → Contains walk c → IsKnown cs c

-- at the least solution a variable has the value `needed`, which is over 1,000,000, and a walk that ends in c forces it
pub record Forces (cs : List Constraint) (c : Constraint) (needed : ℕ) : Type 0 where
  pub values : Assignment
  pub variable : ℕ
  pub before : List Constraint
  pub least : IsLeast cs values
  pub value : get_or values variable 0 ≡ needed
  pub over : MAX_VALUE < needed
  pub forced : IsForcing cs (before ++ c ∷ []) variable needed
  pub listed : Contains cs c

abbrev pub IsVariableBelow : ℕ → Option ℕ → Type 0
IsVariableBelow n None = Unit {0}
IsVariableBelow n (Some u) = u < n

-- each variable of the constraints is below n
abbrev pub HasVariablesBelow : ℕ → List Constraint → Type 0
HasVariablesBelow n = AllByRecursion (λ c. IsVariableBelow n c.low.base × IsVariableBelow n c.high.base)
