-- Tokens of bytes, by longest match.
use Rattle.std.specs.Prelude.{◌≡◌, ℕ, ◌+◌, ◌-◌, ◌*◌, ◌≤◌, ◌<◌, List, [], ◌∷◌, ◌++◌, Bool, false, ◌&&◌, if◌then◌else◌, Option, Some, None, option_map, length, codes, fold, find, slice_range, All}
use Rattle.std.specs.List.{list_all}
use Rattle.lego_base.specs.Names.{same_text}
use Rattle.lego_base.specs.Place.{behind}
use Rattle.lego_base.specs.declared.place.Place.{Place}
use Rattle.lego_base.specs.declared.limits.TheConstants.{MAX_NAME}
use Rattle.lego_lexer.specs.Bytes.{is_digit, begins_name, goes_on_in_name, Gap, BeginsToken, IsOpenComment}
use Rattle.lego_lexer.specs.Limits.{MAX_NUMERAL}
use Rattle.lego_lexer.specs.declared.token.Word.{Word}
use Rattle.lego_lexer.specs.declared.token.Word.TheVariants.{Prop, AnyType, Goal, Intros, Refine, Claim, Next, Assumption, Equiv, Save, KillRef, Undo, Forget, Discharge, Prf, Ctxt, Hnf, Normal, Explicit, Implicit, Module, Import}
use Rattle.lego_lexer.specs.declared.token.Symbol.{Symbol}
use Rattle.lego_lexer.specs.declared.token.Symbol.TheVariants.{OpenSquare, CloseSquare, OpenBrace, CloseBrace, OpenAngle, CloseAngle, OpenParen, CloseParen, Colon, Semicolon, Comma, Equals, Dot, Hash, Question, Arrow, Bar}
use Rattle.lego_lexer.specs.declared.token.TokenKind.{TokenKind}
use Rattle.lego_lexer.specs.declared.token.TokenKind.TheVariants as Kind
use Rattle.lego_lexer.specs.declared.token.Token.{Token}
use Rattle.lego_lexer.specs.declared.token.LexFault.{LexFault}
use Rattle.lego_lexer.specs.declared.token.LexFault.TheVariants.{BadByte, OpenComment, LongName, BigLevel}

-- what a token is: a name with its bytes, a numeral with its value, a reserved word, a symbol
pub data Lexeme : Type 0 where
  Name : List ℕ → Lexeme
  Number : ℕ → Lexeme
  OfWord : Word → Lexeme
  OfSymbol : Symbol → Lexeme

-- what each reserved word is written as, in ASCII
abbrev pub word_text : Word → List ℕ
word_text Prop = codes "Prop"
word_text AnyType = codes "Type"
word_text Goal = codes "Goal"
word_text Intros = codes "Intros"
word_text Refine = codes "Refine"
word_text Claim = codes "Claim"
word_text Next = codes "Next"
word_text Assumption = codes "Assumption"
word_text Equiv = codes "Equiv"
word_text Save = codes "Save"
word_text KillRef = codes "KillRef"
word_text Undo = codes "Undo"
word_text Forget = codes "Forget"
word_text Discharge = codes "Discharge"
word_text Prf = codes "Prf"
word_text Ctxt = codes "Ctxt"
word_text Hnf = codes "Hnf"
word_text Normal = codes "Normal"
word_text Explicit = codes "Explicit"
word_text Implicit = codes "Implicit"
word_text Module = codes "Module"
word_text Import = codes "Import"

abbrev pub words : List Word
words =
    Prop ∷ AnyType ∷ Goal ∷ Intros ∷ Refine ∷ Claim ∷ Next ∷ Assumption ∷ Equiv ∷ Save ∷ KillRef
    ∷ Undo ∷ Forget ∷ Discharge ∷ Prf ∷ Ctxt ∷ Hnf ∷ Normal ∷ Explicit ∷ Implicit ∷ Module ∷ Import ∷ []

-- what each symbol is written as
abbrev pub symbol_text : Symbol → List ℕ
symbol_text OpenSquare = codes "["
symbol_text CloseSquare = codes "]"
symbol_text OpenBrace = codes "{"
symbol_text CloseBrace = codes "}"
symbol_text OpenAngle = codes "<"
symbol_text CloseAngle = codes ">"
symbol_text OpenParen = codes "("
symbol_text CloseParen = codes ")"
symbol_text Colon = codes ":"
symbol_text Semicolon = codes ";"
symbol_text Comma = codes ","
symbol_text Equals = codes "="
symbol_text Dot = codes "."
symbol_text Hash = codes "#"
symbol_text Question = codes "?"
symbol_text Arrow = codes "->"
symbol_text Bar = codes "|"

abbrev pub symbols : List Symbol
symbols =
    OpenSquare ∷ CloseSquare ∷ OpenBrace ∷ CloseBrace ∷ OpenAngle ∷ CloseAngle ∷ OpenParen ∷ CloseParen
    ∷ Colon ∷ Semicolon ∷ Comma ∷ Equals ∷ Dot ∷ Hash ∷ Question ∷ Arrow ∷ Bar ∷ []

-- which of these is written as the text
abbrev pub written_as : {X : Type 0} → (X → List ℕ) → List X → List ℕ → Option X
written_as text_of all text = find (λ x. same_text (text_of x) text) all

-- a letter or `_`, then letters, digits, `_` and `'`
abbrev pub has_name_form : List ℕ → Bool
has_name_form [] = false
has_name_form (b ∷ bytes) = begins_name b && list_all goes_on_in_name bytes

-- one or more decimal digits
abbrev pub has_number_form : List ℕ → Bool
has_number_form [] = false
has_number_form (b ∷ bytes) = is_digit b && list_all is_digit bytes

abbrev pub number_value : List ℕ → ℕ
number_value digits = fold (λ n digit. 10 * n + (digit - 48)) 0 digits

abbrev pub or_else : {X : Type 0} → Option X → Option X → Option X
or_else None other = other
or_else (Some x) other = Some x

-- the token that the whole text is, if it is one; a reserved word is no name
abbrev pub token_of : List ℕ → Option Lexeme
token_of text =
    or_else (option_map OfWord (written_as word_text words text))
    (or_else (option_map OfSymbol (written_as symbol_text symbols text))
    (or_else (if has_name_form text then Some (Name text) else None)
    (if has_number_form text then Some (Number (number_value text)) else None)))

-- the text is this token, and with more of the bytes behind it, it is none
pub record IsLongest (text rest : List ℕ) (lexeme : Lexeme) : Type 0 where
  pub is_token : token_of text ≡ Some lexeme
  pub no_longer : (b : ℕ) (more back : List ℕ) → rest ≡ (b ∷ more) ++ back → token_of (text ++ b ∷ more) ≡ None

-- no front of the bytes is a token
abbrev pub NoToken : List ℕ → Type 0
NoToken bytes = (front back : List ℕ) → bytes ≡ front ++ back → token_of front ≡ None

-- where bytes stand: the place of the first one, and the number of bytes before it
pub record Point : Type 0 where
  pub place : Place
  pub before : ℕ

abbrev pub start : Place → Point
start place = record { place = place; before = 0 }

abbrev pub point_behind : Point → List ℕ → Point
point_behind at bytes = record { place = behind at.place bytes; before = at.before + length bytes }

abbrev pub past : Point → List ℕ → Point
past = point_behind

-- a token, the place of its first byte, and the range of its bytes
pub record Placed : Type 0 where
  pub lexeme : Lexeme
  pub place : Place
  pub from : ℕ
  pub to : ℕ

abbrev pub placed_at : Point → List ℕ → Lexeme → Placed
placed_at at text lexeme = record { lexeme = lexeme; place = at.place; from = at.before; to = at.before + length text }

-- at the front of the bytes stand these tokens, each behind a gap, and this rest is behind them, at that point
pub data Reads : Point → List ℕ → List Placed → Point → List ℕ → Type 0 where
  none : {at : Point} {bytes : List ℕ} → Reads at bytes [] at bytes
  token : {at end : Point} {gap text bytes rest : List ℕ} {lexeme : Lexeme} {tokens : List Placed}
      → Gap gap → BeginsToken (text ++ bytes) → IsLongest text bytes lexeme → Reads (point_behind (point_behind at gap) text) bytes tokens end rest
      → Reads at (gap ++ text ++ bytes) (placed_at (point_behind at gap) text lexeme ∷ tokens) end rest

-- the tokens of bytes that begin at a place: only a gap is behind the last one
pub record Tokens (place : Place) (bytes : List ℕ) (tokens : List Placed) : Type 0 where
  pub end : Point
  pub gap : List ℕ
  pub reads : Reads (start place) bytes tokens end gap
  pub blank : Gap gap

-- a name has few bytes, and a numeral is small
abbrev pub WithinLimits : Lexeme → Type 0
WithinLimits (Name text) = length text ≤ MAX_NAME
WithinLimits (Number n) = n ≤ MAX_NUMERAL
WithinLimits (OfWord w) = Unit {0}
WithinLimits (OfSymbol s) = Unit {0}

abbrev pub AllWithinLimits : List Placed → Type 0
AllWithinLimits tokens = All (λ t. WithinLimits t.lexeme) tokens

-- why the bytes that stand at a place, where a token is due, are refused there
pub data FaultAt (place : Place) : List ℕ → LexFault → Type 0 where
  bad_byte : {b : ℕ} {bytes : List ℕ} → BeginsToken (b ∷ bytes) → NoToken (b ∷ bytes) → FaultAt place (b ∷ bytes) (BadByte place b)
  open_comment : {bytes : List ℕ} → IsOpenComment bytes → FaultAt place bytes (OpenComment place)
  long_name : {text bytes : List ℕ} → BeginsToken (text ++ bytes) → IsLongest text bytes (Name text) → MAX_NAME < length text
      → FaultAt place (text ++ bytes) (LongName place)
  big_level : {text bytes : List ℕ} {n : ℕ} → BeginsToken (text ++ bytes) → IsLongest text bytes (Number n) → MAX_NUMERAL < n
      → FaultAt place (text ++ bytes) (BigLevel place)

-- the bytes, which begin at a place, are refused so: behind tokens within the limits, and a gap
pub record Refused (place : Place) (bytes : List ℕ) (fault : LexFault) : Type 0 where
  pub tokens : List Placed
  pub end : Point
  pub gap : List ℕ
  pub rest : List ℕ
  pub reads : Reads (start place) bytes tokens end (gap ++ rest)
  pub within : AllWithinLimits tokens
  pub blank : Gap gap
  pub cause : FaultAt (behind end.place gap) rest fault

-- a token of the code, whose range is of these bytes
abbrev pub lexeme_of : List ℕ → TokenKind → ℕ → ℕ → Lexeme
lexeme_of bytes Kind.Name from to = Name (slice_range bytes from to)
lexeme_of bytes (Kind.Number n) from to = Number n
lexeme_of bytes (Kind.Word w) from to = OfWord w
lexeme_of bytes (Kind.Symbol s) from to = OfSymbol s

abbrev pub placed : List ℕ → Token → Placed
placed bytes t = record { lexeme = lexeme_of bytes t.kind t.from t.to; place = t.place; from = t.from; to = t.to }
