-- How names are numbered, token by token.
use Rattle.std.specs.Prelude.{◌≡◌, ℕ, List, length, take, false, slice_get, Some, All}
use Rattle.lego_base.specs.Names.{has_name}
use Rattle.lego_lexer.specs.Tokens.{Lexeme, Name, Number, OfWord, OfSymbol}
use Rattle.lego_grammar.specs.Grammar.{Names, Item}
use Rattle.lego_parser.specs.Numbering.{max_names, names_behind}
use Rattle.lego_parser.specs.declared.fault.ParseFault.{ParseFault}
use Rattle.lego_parser.specs.declared.fault.ParseFault.TheVariants as Fault

-- a name's text is numbered
abbrev pub HasNumber : Names → Lexeme → Type 0
HasNumber names (Name text) = (n : ℕ) × (slice_get names n ≡ Some text)
HasNumber names (Number n) = Unit {0}
HasNumber names (OfWord w) = Unit {0}
HasNumber names (OfSymbol s) = Unit {0}

-- a name's number is that of its text; any other token's is 0
abbrev pub IsNumberOf : Names → Lexeme → ℕ → Type 0
IsNumberOf names (Name text) n = slice_get names n ≡ Some text
IsNumberOf names (Number i) n = n ≡ 0
IsNumberOf names (OfWord w) n = n ≡ 0
IsNumberOf names (OfSymbol s) n = n ≡ 0

-- the text of each name among the tokens is numbered
abbrev pub AreNumbered : Names → List Item → Type 0
AreNumbered names tokens = All (λ t. HasNumber names t.lexeme) tokens

-- a name that is new, where no more can be numbered
abbrev pub FindsNoRoom : Names → Lexeme → Type 0
FindsNoRoom names (Name text) = (has_name names text ≡ false) × (length names ≡ max_names)
FindsNoRoom names (Number n) = ⊥
FindsNoRoom names (OfWord w) = ⊥
FindsNoRoom names (OfSymbol s) = ⊥

-- why a token got no number: it finds no room, or, where it would, memory ran out
abbrev pub IsRoomFault : ParseFault → Names → Lexeme → Type 0
IsRoomFault (Fault.Unexpected p) names x = ⊥
IsRoomFault (Fault.TooDeep p) names x = ⊥
IsRoomFault Fault.NamesFull names x = FindsNoRoom names x
IsRoomFault Fault.Memory names x = FindsNoRoom names x → ⊥

-- the names of the first n tokens are numbered, and that of the next one isn't
pub record IsNumberingFault (fault : ParseFault) (old : Names) (tokens : List Item) (new : Names) : Type 0 where
  pub n : ℕ
  pub token : Item
  pub there : slice_get tokens n ≡ Some token
  pub before : new ≡ names_behind old (take n tokens)
  pub why : IsRoomFault fault new token.lexeme

-- a refusal of a token at its place, whatever names are held
abbrev pub IsPlaced : ParseFault → Type 0
IsPlaced (Fault.Unexpected p) = Unit {0}
IsPlaced (Fault.TooDeep p) = Unit {0}
IsPlaced Fault.NamesFull = ⊥
IsPlaced Fault.Memory = ⊥
