-- Potentials: a value for each node, by which each constraint is satisfied.
use Rattle.std.specs.Prelude.{ℕ, ◌+◌, ◌<◌, ◌≤◌, List, Option, Some, None, length, get_or}
use Rattle.lego_level.specs.declared.limits.TheConstants.{START}
use Rattle.lego_level.specs.declared.constraint.Constraint.{Constraint}
use Rattle.lego_level.specs.declared.potential.Potential.{Potential}
use Rattle.lego_level.specs.Graphs.{IsKnown}

-- the value of a node; a variable behind the end has the value at which all begin
unfoldable pub value_at : Potential → Option ℕ → ℕ
value_at p None = p.zero
value_at p (Some u) = get_or p.values.items u START

-- the values of a constraint's levels
abbrev pub low_of : (Option ℕ → ℕ) → Constraint → ℕ
low_of v c = v c.low.base + c.low.plus

abbrev pub high_of : (Option ℕ → ℕ) → Constraint → ℕ
high_of v c = v c.high.base + c.high.plus

-- the values satisfy the listed and the implied constraints
abbrev pub IsFeasible : (Option ℕ → ℕ) → List Constraint → Type 0
IsFeasible v cs = (c : Constraint) → IsKnown cs c → low_of v c ≤ high_of v c

abbrev pub IsBelowTop : Potential → Type 0
IsBelowTop p = (u : ℕ) → value_at p (Some u) ≤ p.top

-- the value of the node can be set
abbrev pub HasRoom : Potential → Option ℕ → Type 0
HasRoom p None = Unit {0}
HasRoom p (Some u) = u < length p.values.items
