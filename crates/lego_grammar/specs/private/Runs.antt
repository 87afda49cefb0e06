-- The machine over tokens.
use Rattle.std.specs.Prelude.{List, [], ◌∷◌, Option, Some, None, false}
use Rattle.lego_lexer.specs.Tokens.{Lexeme, Name, Number, OfWord, OfSymbol}
use Rattle.lego_lexer.specs.declared.token.TokenKind.{TokenKind}
use Rattle.lego_lexer.specs.declared.token.TokenKind.TheVariants as Token
use Rattle.lego_grammar.specs.Written.{WrittenAct}
use Rattle.lego_grammar.specs.Grammar.{Item}
use Rattle.lego_grammar.specs.private.Machine as M
use Rattle.lego_grammar.specs.private.Machine.{Mode, Between, State, move}

-- what the machine sees of a token
abbrev pub class : Lexeme → TokenKind
class (Name text) = Token.Name
class (Number n) = Token.Number n
class (OfWord w) = Token.Word w
class (OfSymbol s) = Token.Symbol s

-- the state behind tokens, if each has a move
abbrev pub goes : List Item → Option State → Option State
goes is None = None
goes [] (Some st) = Some st
goes (i ∷ is) (Some st) = goes is (move false (class i.lexeme) i.place 0 st)

-- where a command with this act begins
abbrev pub start_of : WrittenAct → Mode
start_of (WrittenAct.Bindings bs) = Between []
start_of _ = M.Start
