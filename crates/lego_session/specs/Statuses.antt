-- The number of a status.
use Rattle.std.specs.Prelude.{ℕ}
use Rattle.lego_session.specs.declared.status.Status.{Status}
use Rattle.lego_session.specs.declared.status.Status.TheVariants.{Accepted, Refused, Usage, ReadFault, WriteFault, Memory, OpenProof, TooLong}

abbrev pub code_of : Status → ℕ
code_of Accepted = 0
code_of Refused = 1
code_of Usage = 2
code_of ReadFault = 3
code_of WriteFault = 4
code_of Memory = 5
code_of OpenProof = 6
code_of TooLong = 7
