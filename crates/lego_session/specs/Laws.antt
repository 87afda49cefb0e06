-- Laws of the definitions: what the bytes of a script determine.
use Rattle.std.specs.Prelude.{◌≡◌, ℕ, ◌≤◌, Bool, true, List, length}
use Rattle.lego_base.specs.declared.place.Place.{Place}
use Rattle.lego_lexer.specs.Commands.{CommandText}
use Rattle.lego_grammar.specs.Grammar.{Names}
use Rattle.lego_grammar.specs.Written.{WrittenAct, Undo, Forget, Ctxt, WrittenCommand}
use Rattle.lego_parser.specs.Numbering.{max_names}
use Rattle.lego_session.specs.Answers.{IsNumbering, IsNumberedCommand, IsUnread}
use Rattle.lego_session.specs.Reading.{is_built}
use Rattle.lego_session.specs.Runs.{Run}
use Rattle.lego_session.specs.Sessions.{Session}
use Rattle.lego_session.specs.Step.{Reply, Step}
use Rattle.lego_session.specs.declared.refusal.Cause.{Cause}

-- a command that reads no term: it takes back, or shows what is there
abbrev pub ReadsNoTerm : WrittenAct → Type 0
ReadsNoTerm (Undo n) = Unit {0}
ReadsNoTerm (Forget x) = Unit {0}
ReadsNoTerm Ctxt = Unit {0}
ReadsNoTerm _ = ⊥

-- such a command has one reply, and leaves one session
abbrev pub StepsHaveOneReply : Type 0
StepsHaveOneReply =
    (names : Names) (limit : ℕ) (old new last : Session) (o : WrittenCommand) (one other : Reply)
    → ReadsNoTerm o.act → Step names limit old o one new → Step names limit old o other last → (one ≡ other) × (new ≡ last)

-- runs over the same bytes, which begin at the same place, have the same commands, and the same ending behind them
abbrev pub RunsHaveOneCut : Type 0
RunsHaveOneCut =
    (limit : ℕ) (stop : Bool) (place : Place) (bytes : List ℕ) (one other : Run limit stop place bytes)
    → (one.commands ≡ other.commands) × (one.ending ≡ other.ending)

-- In what way a command's bytes are read over a numbering is one: they are one command, and leave one numbering, where each text has
-- one number; or they are refused at one place for one cause, and leave one numbering. A command whose form is built is not refused.
pub record IsReadInOneWay (held : Names) (c : CommandText) : Type 0 where
  pub command : (names other : Names) (o o' : WrittenCommand) → IsNumbering names → IsNumberedCommand held names c o → IsNumberedCommand held other c o'
      → (names ≡ other) × (o ≡ o')
  pub refusal : (left other : Names) (p q : Place) (x y : Cause) → length left ≤ max_names → length other ≤ max_names
      → IsUnread held left c p x → IsUnread held other c q y → (left ≡ other) × (p ≡ q) × (x ≡ y)
  pub not_both : (names left : Names) (o : WrittenCommand) (p : Place) (x : Cause) → IsNumbering names → IsNumberedCommand held names c o
      → is_built o.act ≡ true → IsUnread held left c p x → ⊥

abbrev pub CommandsAreReadInOneWay : Type 0
CommandsAreReadInOneWay = (held : Names) (c : CommandText) → IsReadInOneWay held c
