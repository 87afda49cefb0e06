-- Why bytes are no command, as it is answered.
use Rattle.std.specs.Prelude.{◌≡◌, ℕ, ◌<◌, List, slice_get, slice_range, true, false, Option, Some, None, Result, Ok, Err, ◌⊎◌}
use Rattle.lego_base.specs.declared.place.Place.{Place}
use Rattle.lego_lexer.specs.declared.token.Token.{Token}
use Rattle.lego_lexer.specs.Commands.{CommandText}
use Rattle.lego_grammar.specs.Grammar.{Names}
use Rattle.lego_parser.specs.declared.fault.ParseFault.{ParseFault}
use Rattle.lego_parser.specs.declared.fault.ParseFault.TheVariants as Fault
use Rattle.lego_session.specs.Answers.{IsUnread}
use Rattle.lego_session.specs.declared.answers.Answered.{Answered}
use Rattle.lego_session.specs.declared.session.Answer.{Answer}
use Rattle.lego_session.specs.declared.refusal.Refusal.{Refusal}
use Rattle.lego_session.specs.declared.refusal.Cause.{Cause}
use Rattle.lego_session.specs.declared.refusal.Cause.TheVariants.{Unexpected, TooDeep, NamesFull, Memory}

-- why bytes are no command; want of memory is free
abbrev pub IsUnreadBy : (held left : Names) → CommandText → Place → Cause → Type 0
IsUnreadBy held left c p cause = (cause ≡ Memory) ⊎ IsUnread held left c p cause

-- the token is one of these, at this place
pub record StandsAt (tokens : List Token) (p : Place) (t : Token) : Type 0 where
  pub index : ℕ
  pub there : slice_get tokens index ≡ Some t
  pub place : t.place ≡ p

-- the first so many tokens stand at other places
abbrev pub FirstStandElsewhere : List Token → Place → ℕ → Type 0
FirstStandElsewhere tokens p count = (n : ℕ) (t : Token) → n < count → slice_get tokens n ≡ Some t → t.place ≡ p → ⊥

-- a token stands where one is unexpected
abbrev pub HasItsToken : List Token → ParseFault → Type 0
HasItsToken tokens (Fault.Unexpected p) = (t : Token) × StandsAt tokens p t
HasItsToken tokens _ = Unit {0}

-- the token is unexpected, and its bytes are said; want of memory is free
abbrev pub IsUnexpectedToken : List ℕ → Token → Place → Cause → Type 0
IsUnexpectedToken bytes t p cause = (cause ≡ Memory) ⊎ ((p ≡ t.place) × (cause ≡ Unexpected (slice_range bytes t.from t.to)))

-- the place and the cause for a fault of the parser
abbrev pub IsNotParsed : Place → List ℕ → List Token → ParseFault → Place → Cause → Type 0
IsNotParsed first bytes tokens (Fault.Unexpected q) p cause = (t : Token) × StandsAt tokens q t × IsUnexpectedToken bytes t p cause
IsNotParsed first bytes tokens (Fault.TooDeep q) p cause = (p ≡ q) × (cause ≡ TooDeep)
IsNotParsed first bytes tokens Fault.NamesFull p cause = (p ≡ first) × (cause ≡ NamesFull)
IsNotParsed first bytes tokens Fault.Memory p cause = cause ≡ Memory

-- what is written for an accepted or a refused command; nothing where memory ran out
abbrev pub IsWritten : Result Answer Refusal → Option Answered → Type 0
IsWritten (Ok answer) (Some a) = (a.refused ≡ false) × (a.text ≡ answer.text)
IsWritten (Ok answer) None = ⊥
IsWritten (Err refusal) (Some a) = (refusal.cause ≡ Memory → ⊥) × (a.refused ≡ true) × (a.text ≡ refusal.text)
IsWritten (Err refusal) None = refusal.cause ≡ Memory
