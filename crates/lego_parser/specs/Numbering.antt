-- Numbers for the names among tokens, in the order of their first sight.
use Rattle.std.specs.Prelude.{◌≡◌, ℕ, ◌+◌, ◌<◌, ◌≤◌, List, [], ◌∷◌, ◌++◌, length, All}
use Rattle.lego_base.specs.Names.{interned}
use Rattle.lego_lexer.specs.Tokens.{Lexeme, Name, Number, OfWord, OfSymbol}
use Rattle.lego_lexer.specs.declared.token.Token.{Token}
use Rattle.lego_lexer.specs.declared.token.TokenKind.TheVariants as Kind
use Rattle.lego_grammar.specs.Grammar.{Names, Item}
use Rattle.lego_parser.specs.declared.fault.ParseFault.{ParseFault}
use Rattle.lego_parser.specs.declared.fault.ParseFault.TheVariants as Fault

-- the range of a token lies in the bytes, and has 1 to 255 of them
pub record HasNameRange (bytes : List ℕ) (t : Token) : Type 0 where
  pub some : t.from < t.to
  pub within : t.to ≤ length bytes
  pub short : t.to ≤ t.from + 255

-- each name has such a range
abbrev pub NamesHaveRanges : List ℕ → List Token → Type 0
NamesHaveRanges bytes tokens = All (λ t. t.kind ≡ Kind.Name → HasNameRange bytes t) tokens

-- how many names can be numbered
abbrev pub max_names : ℕ
max_names = 1048576

-- the names behind a token: a name that is new gets the next number
abbrev pub names_with : Names → Lexeme → Names
names_with names (Name text) = interned names text
names_with names (Number n) = names
names_with names (OfWord w) = names
names_with names (OfSymbol s) = names

-- the names behind tokens, in the order of the tokens
abbrev pub names_behind : Names → List Item → Names
names_behind names [] = names
names_behind names (t ∷ tokens) = names_behind (names_with names t.lexeme) tokens

-- the names held and those among the tokens are together more than can be numbered
abbrev pub AreTooMany : Names → List Item → Type 0
AreTooMany held tokens = max_names < length (names_behind held tokens)

-- the second list begins with the first
abbrev pub IsFront : Names → Names → Type 0
IsFront front whole = (rest : Names) × (whole ≡ front ++ rest)

-- The names behind a refusal: those before it, unless there are too many, or memory ran out while they were numbered.
abbrev pub LeavesNames : ParseFault → Names → List Item → Names → Type 0
LeavesNames (Fault.Unexpected p) old tokens new = new ≡ old
LeavesNames (Fault.TooDeep p) old tokens new = new ≡ old
LeavesNames Fault.NamesFull old tokens new = (length new ≡ max_names) × IsFront new (names_behind old tokens)
LeavesNames Fault.Memory old tokens new = IsFront new (names_behind old tokens)
