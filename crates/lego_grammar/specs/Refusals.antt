-- Where tokens are refused: the first token after which no reading exists, and the first that is nested too deep.
use Rattle.std.specs.Prelude.{◌≡◌, ℕ, suc, ◌<◌, List, [], ◌∷◌, ◌++◌, map, take, length, Some, slice_get}
use Rattle.lego_base.specs.declared.place.Place.{Place}
use Rattle.lego_lexer.specs.Tokens.{OfSymbol}
use Rattle.lego_lexer.specs.declared.token.Symbol.TheVariants.{Semicolon}
use Rattle.lego_grammar.specs.Written.{WrittenAct, WrittenCommand}
use Rattle.lego_grammar.specs.Grammar.{Names, Nested, Item, item, Parses, ReadsCommand, IsContext}

-- some command begins with these tokens, under some numbering
abbrev pub GoesOn : List Item → Type 0
GoesOn tokens = (names : Names) × (more : List Item) × (c : WrittenCommand) × Parses names (tokens ++ more) c

-- token n is the first one after which no reading exists
pub record IsUnexpected (tokens : List Item) (n : ℕ) : Type 0 where
  pub before : GoesOn (take n tokens)
  pub behind : GoesOn (take (suc n) tokens) → ⊥

-- A context command begins with the tokens, and a `;` behind them makes no command: they end inside a binding, or there are none
-- yet, or they are a whole command.
pub record EndsInBinding (tokens : List Item) : Type 0 where
  pub names : Names
  pub more : List Item
  pub command : WrittenCommand
  pub is_context : IsContext command.act
  pub begins : Parses names (tokens ++ more) command
  pub inside : (ns : Names) (p : Place) (c : WrittenCommand) → Parses ns (tokens ++ record { lexeme = OfSymbol Semicolon; place = p } ∷ []) c → ⊥

-- Tokens behind which no reading exists are nested as in a context where they end inside a binding, and where only contexts
-- begin with them, as behind `[x=M:T]`; else as in a command that is no context command.
pub data Prevails (tokens : List Item) : WrittenAct → Type 0 where
  in_binding : {act : WrittenAct} → IsContext act → EndsInBinding tokens → Prevails tokens act
  alone : {act : WrittenAct}
      → IsContext act
      → ((names : Names) (more : List Item) (c : WrittenCommand) → Parses names (tokens ++ more) c → IsContext c.act) → Prevails tokens act
  other : {act : WrittenAct} → (IsContext act → ⊥) → (EndsInBinding tokens → ⊥) → Prevails tokens act

-- How a command's tokens are nested: as the command that they are; where they are none, those before the first token
-- without a reading as in a command that begins with them, and that token as deep as one that may stand there;
-- behind a whole command, only its own tokens are nested.
pub data NestedSo (tokens : List Item) : List Nested → Type 0 where
  read : {names : Names} {nested : List Nested} {c : WrittenCommand}
      → map item nested ≡ tokens → ReadsCommand names nested c → NestedSo tokens nested
  unread : {names : Names} (nested more : List Nested) (next : Nested) {c : WrittenCommand}
      → IsUnexpected tokens (length nested) → map item nested ≡ take (length nested) tokens
      → Prevails (take (length nested) tokens) c.act → ReadsCommand names (nested ++ next ∷ more) c
      → NestedSo tokens (nested ++ next ∷ [])
  behind : {names : Names} (nested : List Nested) {c : WrittenCommand}
      → IsUnexpected tokens (length nested) → map item nested ≡ take (length nested) tokens → ReadsCommand names nested c
      → NestedSo tokens nested

-- token n is the first of nesting 501
pub record IsTooDeep (tokens : List Item) (n : ℕ) : Type 0 where
  pub nested : List Nested
  pub so : NestedSo tokens nested
  pub token : Nested
  pub there : slice_get nested n ≡ Some token
  pub deep : token.nesting ≡ 501
  pub first : (i : ℕ) (t : Nested) → i < n → slice_get nested i ≡ Some t → t.nesting < 501
