-- A fault of reducing a term, as a fault of matching and as a stop of a walk.
use Rattle.lego_reduce.specs.declared.fault.ReduceFault.{ReduceFault}
use Rattle.lego_reduce.specs.declared.fault.ReduceFault.TheVariants as reduce
use Rattle.lego_match.specs.declared.fault.MatchFault.{MatchFault}
use Rattle.lego_match.specs.declared.fault.MatchFault.TheVariants as match
use Rattle.lego_match.specs.declared.stop.Stop.{Stop}
use Rattle.lego_match.specs.declared.stop.Stop.TheVariants as stop

abbrev pub of_reduction : ReduceFault → MatchFault
of_reduction reduce.Budget = match.Budget
of_reduction (reduce.TooLarge nodes levels) = match.TooLarge nodes levels
of_reduction reduce.Memory = match.Memory

abbrev pub stop_of : ReduceFault → Stop
stop_of reduce.Budget = stop.Budget
stop_of (reduce.TooLarge nodes levels) = stop.Whole
stop_of reduce.Memory = stop.Memory
