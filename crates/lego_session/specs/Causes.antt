-- The causes for the faults of reading, typing and reduction, and their places.
use Rattle.std.specs.Prelude.{None}
use Rattle.lego_base.specs.declared.place.Place.{Place}
use Rattle.lego_inference.specs.declared.fault.Counted.TheVariants.{Levels}
use Rattle.lego_inference.specs.declared.fault.TypeFault.{TypeFault}
use Rattle.lego_inference.specs.declared.fault.TypeFault.TheVariants as fault
use Rattle.lego_reading.specs.declared.fault.ReadFault.{ReadFault}
use Rattle.lego_reading.specs.declared.fault.ReadFault.TheVariants as Read
use Rattle.lego_session.specs.declared.refusal.Cause.{Cause}
use Rattle.lego_session.specs.declared.refusal.Cause.TheVariants.{UnknownName, UnknownGoal, NotAType, NotAFunction, NotAPair, Mismatch, Universe, Budget, TooLarge, LevelTooBig, Full, NotSigma, Memory}

-- a name and a `?n` stand at their own place, and all else that isn't read at the given one
abbrev pub read_place : ReadFault → Place → Place
read_place (Read.UnknownName p n) place = p
read_place (Read.UnknownGoal p n) place = p
read_place _ place = place

abbrev pub read_cause : ReadFault → Cause
read_cause (Read.UnknownName p n) = UnknownName n
read_cause (Read.UnknownGoal p n) = UnknownGoal n
read_cause (Read.NotSigma got) = NotSigma got
read_cause (Read.TooLarge i j) = TooLarge i j
read_cause (Read.Budget left) = Budget left None
read_cause (Read.Full held) = Full Levels held
read_cause Read.Memory = Memory

-- the faults that a context without holes has where it is asked for a new name
abbrev pub IsTold : TypeFault → Type 0
IsTold (fault.NameInUse at) = ⊥
IsTold (fault.Circular hole) = ⊥
IsTold _ = Unit {0}

-- the cause for each of these; the others have none
abbrev pub cause_of : TypeFault → Cause
cause_of (fault.NotAType term got) = NotAType term got
cause_of (fault.NotAFunction term got) = NotAFunction term got
cause_of (fault.NotAPair term got) = NotAPair term got
cause_of (fault.Mismatch term have want) = Mismatch term have want
cause_of (fault.Universe cycle) = Universe cycle
cause_of (fault.Budget left right) = Budget left right
cause_of (fault.TooLarge i j) = TooLarge i j
cause_of (fault.LevelTooBig constraint needed) = LevelTooBig constraint needed
cause_of (fault.Full of held) = Full of held
cause_of _ = Memory
