-- How a command's bytes are read, and answered.
use Rattle.std.specs.Prelude.{◌≡◌, ℕ, ◌<◌, ◌≤◌, true, false, List, map, length, slice_get, slice_range, Some, All}
use Rattle.lego_base.specs.Names.{AreDistinct}
use Rattle.lego_base.specs.declared.place.Place.{Place}
use Rattle.lego_lexer.specs.Commands.{CommandText}
use Rattle.lego_lexer.specs.Tokens.{Placed, Tokens, AllWithinLimits, Refused}
use Rattle.lego_lexer.specs.declared.token.LexFault.{LexFault}
use Rattle.lego_lexer.specs.declared.token.LexFault.TheVariants as Lex
use Rattle.lego_grammar.specs.Grammar.{Names, Item as Token, Parses}
use Rattle.lego_grammar.specs.Refusals.{IsUnexpected, IsTooDeep}
use Rattle.lego_parser.specs.Numbering.{names_behind, AreTooMany, IsFront, max_names}
use Rattle.lego_grammar.specs.Written.{WrittenCommand}
use Rattle.lego_session.specs.Reading.{is_built}
use Rattle.lego_session.specs.Refusals.{refusal_text}
use Rattle.lego_session.specs.Sessions.{Session, entries_of}
use Rattle.lego_session.specs.Step.{Reply, Step}
use Rattle.lego_session.specs.declared.refusal.Cause.{Cause}
use Rattle.lego_session.specs.declared.refusal.Cause.TheVariants.{BadByte, OpenComment, LongName, BigLevel, Unexpected, TooDeep, LongCommand, NamesFull, Memory}

-- the tokens as the grammar sees them
abbrev pub grammar_tokens : List Placed → List Token
grammar_tokens tokens = map (λ t. record { lexeme = t.lexeme; place = t.place }) tokens

-- the tokens of a command within the limit of bytes
pub record HasTokens (c : CommandText) (tokens : List Placed) : Type 0 where
  pub short : length c.bytes ≤ 65536
  pub lexed : Tokens c.place c.bytes tokens
  pub within : AllWithinLimits tokens

-- each text has one number, and there are no more than the limit
pub record IsNumbering (names : Names) : Type 0 where
  pub distinct : AreDistinct names
  pub few : length names ≤ 1048576

-- the command that the bytes are, within the limits
pub record IsCommand (names : Names) (c : CommandText) (o : WrittenCommand) : Type 0 where
  pub tokens : List Placed
  pub lexed : HasTokens c tokens
  pub parsed : Parses names (grammar_tokens tokens) o
  pub shallow : All (λ t. t.nesting ≤ 500) parsed.nested

-- so, where the names among its tokens are numbered behind those held, by first sight
pub record IsNumberedCommand (held names : Names) (c : CommandText) (o : WrittenCommand) : Type 0 where
  pub command : IsCommand names c o
  pub numbers : names ≡ names_behind held (grammar_tokens command.tokens)

-- the place and the cause of a refused token
abbrev pub lex_place : LexFault → Place → Place
lex_place (Lex.BadByte place byte) p = place
lex_place (Lex.OpenComment place) p = place
lex_place (Lex.LongName place) p = place
lex_place (Lex.BigLevel place) p = place
lex_place Lex.Memory p = p

abbrev pub lex_cause : LexFault → Cause
lex_cause (Lex.BadByte place byte) = BadByte byte
lex_cause (Lex.OpenComment place) = OpenComment
lex_cause (Lex.LongName place) = LongName
lex_cause (Lex.BigLevel place) = BigLevel
lex_cause Lex.Memory = Memory

-- the bytes of a token
abbrev pub token_text : CommandText → Placed → List ℕ
token_text c t = slice_range c.bytes t.from t.to

-- Why bytes are no command, or none of a form that is built, in the order in which they are looked at, and which numbering is
-- left of the one that was held: the same one, unless the bytes are a command.
pub data IsUnread (held left : Names) (c : CommandText) : Place → Cause → Type 0 where
  long : left ≡ held → 65536 < length c.bytes → IsUnread held left c c.place (LongCommand (length c.bytes))
  lex : {fault : LexFault} → left ≡ held → length c.bytes ≤ 65536 → Refused c.place c.bytes fault
      → IsUnread held left c (lex_place fault c.place) (lex_cause fault)
  unexpected : {tokens : List Placed} {t : Placed} (n : ℕ) → left ≡ held → HasTokens c tokens → IsUnexpected (grammar_tokens tokens) n
      → slice_get tokens n ≡ Some t → ((i : ℕ) → IsTooDeep (grammar_tokens tokens) i → ⊥)
      → IsUnread held left c t.place (Unexpected (token_text c t))
  too_deep : {tokens : List Placed} {t : Placed} (n : ℕ) → left ≡ held → HasTokens c tokens → IsTooDeep (grammar_tokens tokens) n
      → slice_get tokens n ≡ Some t → IsUnread held left c t.place TooDeep
  names_full : {names : Names} {o : WrittenCommand} → (command : IsCommand names c o) → AreTooMany held (grammar_tokens command.tokens)
      → length left ≡ max_names → IsFront left (names_behind held (grammar_tokens command.tokens)) → IsUnread held left c c.place NamesFull
  unbuilt : {o : WrittenCommand} {t : Placed} → (command : IsNumberedCommand held left c o) → is_built o.act ≡ false
      → slice_get command.command.tokens 0 ≡ Some t → IsUnread held left c t.place (Unexpected (token_text c t))

-- the answer to one command's bytes, and the numbering and the session that it leaves
pub data Answers (limit : ℕ) (held : Names) (old : Session) (c : CommandText) : Reply → Names → Session → Type 0 where
  step : {names : Names} {o : WrittenCommand} {answer : Reply} {new : Session}
      → IsNumbering names → IsNumberedCommand held names c o → is_built o.act ≡ true → Step names limit old o answer new
      → Answers limit held old c answer names new
  unread : {names : Names} {p : Place} {cause : Cause}
      → IsNumbering names → IsUnread held names c p cause
      → Answers limit held old c (record { refused = true; text = refusal_text names (entries_of old) p cause }) names old
