-- A fault of making a term, as a fault of reducing one.
use Rattle.lego_term.specs.declared.fault.TermFault.{TermFault}
use Rattle.lego_term.specs.declared.fault.TermFault.TheVariants as term
use Rattle.lego_reduce.specs.declared.fault.ReduceFault.{ReduceFault}
use Rattle.lego_reduce.specs.declared.fault.ReduceFault.TheVariants.{TooLarge, Memory}

abbrev pub of_term : TermFault → ReduceFault
of_term (term.TooLarge nodes levels) = TooLarge nodes levels
of_term term.Memory = Memory
