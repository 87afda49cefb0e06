-- When a constraint is refused.
use Rattle.std.specs.Prelude.{List}
use Rattle.lego_level.specs.declared.constraint.Constraint.{Constraint}
use Rattle.lego_level.specs.declared.solver.InsertFault.{InsertFault}
use Rattle.lego_level.specs.declared.solver.InsertFault.TheVariants.{Cycle, Memory}
use Rattle.lego_level.specs.Graphs.{IsCycle, CanBeSatisfied}

abbrev pub IsInsertFault : List Constraint → InsertFault → Type 0
IsInsertFault cs (Cycle cycle) = IsCycle cs cycle × (CanBeSatisfied cs → ⊥)
IsInsertFault cs Memory = Unit {0}
