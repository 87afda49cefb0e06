-- What the parser answers.
use Rattle.std.specs.Prelude.{◌≡◌, ℕ, ◌≤◌, List, [], ◌∷◌, ◌++◌, slice_get, Some, All}
use Rattle.lego_lexer.specs.declared.token.Token.{Token}
use Rattle.lego_lexer.specs.declared.token.TokenKind.TheVariants as Kind
use Rattle.lego_lexer.specs.declared.token.Symbol.TheVariants.{Semicolon}
use Rattle.lego_grammar.specs.Grammar.{Names, Item, Parses}
use Rattle.lego_grammar.specs.Refusals.{IsUnexpected, IsTooDeep}
use Rattle.lego_grammar.specs.Written.{WrittenCommand}
use Rattle.lego_parser.specs.Numbering.{AreTooMany}
use Rattle.lego_parser.specs.declared.fault.ParseFault.{ParseFault}
use Rattle.lego_parser.specs.declared.fault.ParseFault.TheVariants as Fault

-- the last token is a `;`
abbrev pub EndWithSemicolon : List Token → Type 0
EndWithSemicolon tokens = (front : List Token) × (t : Token) × (tokens ≡ front ++ t ∷ []) × (t.kind ≡ Kind.Symbol Semicolon)

-- the tokens are read as the command, and none is nested deeper than 500
pub record ParsesTo (names : Names) (tokens : List Item) (o : WrittenCommand) : Type 0 where
  pub parses : Parses names tokens o
  pub shallow : All (λ t. t.nesting ≤ 500) parses.nested

-- why tokens are no command within the limits; want of memory is free
abbrev pub IsNoCommand : Names → List Item → ParseFault → Type 0
IsNoCommand held tokens (Fault.Unexpected p) =
    (n : ℕ) × (t : Item) × (slice_get tokens n ≡ Some t) × (t.place ≡ p) × IsUnexpected tokens n × ((i : ℕ) → IsTooDeep tokens i → ⊥)
IsNoCommand held tokens (Fault.TooDeep p) = (n : ℕ) × (t : Item) × (slice_get tokens n ≡ Some t) × (t.place ≡ p) × IsTooDeep tokens n
IsNoCommand held tokens Fault.NamesFull = (names : Names) × (o : WrittenCommand) × ParsesTo names tokens o × AreTooMany held tokens
IsNoCommand held tokens Fault.Memory = Unit {0}
