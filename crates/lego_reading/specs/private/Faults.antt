-- A fault of making a term, as a fault of reading one.
use Rattle.lego_term.specs.declared.fault.TermFault.{TermFault}
use Rattle.lego_term.specs.declared.fault.TermFault.TheVariants as term
use Rattle.lego_reading.specs.declared.fault.ReadFault.{ReadFault}
use Rattle.lego_reading.specs.declared.fault.ReadFault.TheVariants.{TooLarge, Memory}

abbrev pub of_term : TermFault → ReadFault
of_term (term.TooLarge nodes levels) = TooLarge nodes levels
of_term term.Memory = Memory
