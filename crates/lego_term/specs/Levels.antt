-- Levels, their values, and when an assignment satisfies a pair of them.
use Rattle.std.specs.Prelude.{ℕ, ◌+◌, ◌≤◌, List, Option, Some, None, get_or}
use Rattle.std.specs.List.{AllByRecursion}
use Rattle.lego_term.specs.declared.level.Level.{Level}

-- a level is a number, or a variable plus a number
abbrev pub fixed_level : ℕ → Level
fixed_level n = record { base = None; plus = n }

abbrev pub variable_level : ℕ → Level
variable_level u = record { base = Some u; plus = 0 }

-- gives each variable the item at the variable's number, and 0 behind the end
abbrev pub Assignment : Type 0
Assignment = List ℕ

-- the value of a node: of a variable, or of the zero node, from which fixed levels are counted
abbrev pub node_value : Assignment → Option ℕ → ℕ
node_value v None = 0
node_value v (Some u) = get_or v u 0

abbrev pub level_value : Assignment → Level → ℕ
level_value v l = node_value v l.base + l.plus

-- v satisfies low <= high
abbrev pub Satisfies : Assignment → Level → Level → Type 0
Satisfies v low high = level_value v low ≤ level_value v high

-- a constraint as the rules see it: `low` is at most `high`
pub record LevelPair : Type 0 where
  pub low : Level
  pub high : Level

-- v satisfies each pair
abbrev pub SatisfiesAll : Assignment → List LevelPair → Type 0
SatisfiesAll v pairs = AllByRecursion (λ c. Satisfies v c.low c.high) pairs
