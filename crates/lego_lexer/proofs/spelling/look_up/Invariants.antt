use Rattle.std.proofs.Common.{◌≡◌, ℕ, List, drop}
use Rattle.lego_lexer.specs.Tokens.{written_as}
use Rattle.lego_lexer.specs.private.Spelled.{IsTableOf, words_in}
use Rattle.lego_lexer.specs.declared.token.Word.{Word}
use Rattle.lego_lexer.proofs.spelling.look_up.Given as goal

-- no word up to here is written so
abbrev pub invariant-loop-written : goal.invariant-loop-written
invariant-loop-written l =
    (text_of : Word → List ℕ) → IsTableOf text_of l.table → written_as text_of (words_in (drop l.written-index l.table)) l.text ≡ written_as text_of (words_in l.table) l.text
