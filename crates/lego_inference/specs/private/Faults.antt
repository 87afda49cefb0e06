-- A fault of a maker as one of a check.
use Rattle.lego_term.specs.declared.fault.TermFault.{TermFault}
use Rattle.lego_term.specs.declared.fault.TermFault.TheVariants as made
use Rattle.lego_inference.specs.declared.fault.TypeFault.{TypeFault}
use Rattle.lego_inference.specs.declared.fault.TypeFault.TheVariants.{TooLarge, Memory}

abbrev pub of_term : TermFault → TypeFault
of_term (made.TooLarge nodes levels) = TooLarge nodes levels
of_term made.Memory = Memory
