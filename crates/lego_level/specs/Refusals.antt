-- What the refusals of a graph say.
use Rattle.std.specs.Prelude.{List}
use Rattle.lego_level.specs.declared.constraint.Constraint.{Constraint}
use Rattle.lego_level.specs.declared.fault.GraphFault.{GraphFault}
use Rattle.lego_level.specs.declared.fault.GraphFault.TheVariants as graph
use Rattle.lego_level.specs.declared.solver.InsertFault.{InsertFault}
use Rattle.lego_level.specs.declared.solver.InsertFault.TheVariants as insert
use Rattle.lego_level.specs.Graphs.{IsCycle, Forces, CanBeSatisfied}

abbrev pub graph_fault : InsertFault → GraphFault
graph_fault (insert.Cycle cycle) = graph.Cycle cycle
graph_fault insert.Memory = graph.Memory

-- the constraints can't be satisfied; a least value is over the limit; nothing is said of memory
abbrev pub IsGraphFault : List Constraint → GraphFault → Type 0
IsGraphFault cs (graph.Cycle cycle) = IsCycle cs cycle × (CanBeSatisfied cs → ⊥)
IsGraphFault cs (graph.LevelTooBig c needed) = Forces cs c needed
IsGraphFault cs graph.Memory = Unit {0}
