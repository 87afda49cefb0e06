-- Least levels.
use Rattle.std.specs.Prelude.{◌≡◌, ℕ, ◌≤◌, List, length, get_or}
use Rattle.lego_term.specs.Levels.{Assignment}
use Rattle.lego_level.specs.declared.constraint.Constraint.{Constraint}
use Rattle.lego_level.specs.Graphs.{IsCycle, IsLeast, Forces, CanBeSatisfied, HasVariablesBelow}
use Rattle.lego_inference.specs.declared.fault.TypeFault.{TypeFault}
use Rattle.lego_inference.specs.declared.fault.TypeFault.TheVariants.{Universe, LevelTooBig, Memory}
use Rattle.lego_context.specs.Contexts.{Contents}
use Rattle.lego_context.specs.Causes.{together}

-- the variables below `levels` are all of the context and of these constraints
pub record CanBeSettled (c : Contents) (more : List Constraint) (levels : ℕ) : Type 0 where
  pub context : c.levels ≤ levels
  pub constraints : HasVariablesBelow levels more

-- the values are the least ones of so many variables, and within the limit
pub record IsSettled (c : Contents) (more : List Constraint) (levels : ℕ) (values : Assignment) : Type 0 where
  pub least : IsLeast (together c.entries more) values
  pub count : length values ≡ levels
  pub within : (u : ℕ) → get_or values u 0 ≤ 1000000

-- the constraints can't be satisfied, or their least solution is over the limit; nothing is said of memory
abbrev pub IsUnsettled : List Constraint → TypeFault → Type 0
IsUnsettled all (Universe cycle) = IsCycle all cycle × (CanBeSatisfied all → ⊥)
IsUnsettled all (LevelTooBig constraint needed) = Forces all constraint needed
IsUnsettled all Memory = Unit {0}
IsUnsettled all _ = ⊥
