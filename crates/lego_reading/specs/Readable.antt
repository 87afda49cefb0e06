-- The written terms of commands can be read.
use Rattle.std.specs.Prelude.{All, Some, None}
use Rattle.lego_grammar.specs.declared.command.Command.{Command}
use Rattle.lego_grammar.specs.Surface.{written_command}
use Rattle.lego_grammar.specs.Written.{WrittenKind, Assumed, Defined, WrittenAct}
use Rattle.lego_grammar.specs.WrittenForm.{IsWrittenForm}
use Rattle.lego_reading.specs.Calls.{CanBeRead}

-- each written term of a binding can be read
abbrev pub CanKindBeRead : WrittenKind → Type 0
CanKindBeRead (Assumed mark a) = CanBeRead a
CanKindBeRead (Defined m None) = CanBeRead m
CanKindBeRead (Defined m (Some a)) = CanBeRead m × CanBeRead a

-- each written term of a command can be read
abbrev pub CanActBeRead : WrittenAct → Type 0
CanActBeRead (WrittenAct.Bindings bs) = All (λ b. CanKindBeRead b.kind) bs
CanActBeRead (WrittenAct.Goal name a) = CanBeRead a
CanActBeRead (WrittenAct.Refine m) = CanBeRead m
CanActBeRead (WrittenAct.Claim a) = CanBeRead a
CanActBeRead (WrittenAct.Equiv a) = CanBeRead a
CanActBeRead (WrittenAct.Hnf m) = CanBeRead m
CanActBeRead (WrittenAct.Normal m) = CanBeRead m
CanActBeRead (WrittenAct.Show m) = CanBeRead m
CanActBeRead _ = Unit {0}

-- a command that stands for tokens within the limits has written terms that can be read
abbrev pub ParsedTermsCanBeRead : Type 0
ParsedTermsCanBeRead = (command : Command) → IsWrittenForm command → CanActBeRead (written_command command).act
