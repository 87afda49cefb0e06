-- Tables of words, each with what it is written as.
use Rattle.std.specs.Prelude.{◌≡◌, ℕ, List, map}
use Rattle.std.specs.Borrow.{Bor}
use Rattle.lego_lexer.specs.declared.token.Word.{Word}

abbrev pub words_in : List (Bor (List ℕ) × Word) → List Word
words_in table = map (λ (entry : Bor (List ℕ) × Word). entry.1) table

abbrev pub texts_in : List (Bor (List ℕ) × Word) → List (List ℕ)
texts_in table = map (λ (entry : Bor (List ℕ) × Word). entry.0.now) table

-- each word of the table stands with its text
abbrev pub IsTableOf : (Word → List ℕ) → List (Bor (List ℕ) × Word) → Type 0
IsTableOf text_of table = texts_in table ≡ map text_of (words_in table)
