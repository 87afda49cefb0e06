-- Tokens at the front of bytes, with no gap before them.
use Rattle.std.proofs.Common.{◌≡◌, ℕ, Bool, false, true, nat_eq, not, ◌&&◌, List, [], ◌∷◌, ◌++◌, Some, refl, ap, ◌∙◌, arith}
use Rattle.std.proofs.lemmas.Bool.{false≢true}
use Rattle.std.proofs.lemmas.Bool.Decides.{nat_tests}
use Rattle.lego_lexer.specs.Bytes.{is_digit, begins_name, goes_on_in_name, begins_comment, is_blank, Gap}
use Rattle.lego_lexer.specs.Commands.{Unbroken}
use Rattle.lego_lexer.specs.Tokens.{Lexeme, OfSymbol, Point, Placed, Reads, point_behind, placed_at, token_of, symbol_text, symbols, written_as}
use Rattle.lego_lexer.specs.declared.token.Symbol.{Symbol}
use Rattle.lego_lexer.proofs.TokenLemmas.{Stops, name_longest, number_longest, symbol_longest}

-- the token that stands here, and the point behind it
abbrev pub here : Point → List ℕ → Lexeme → Placed
here at text lexeme = placed_at (point_behind at []) text lexeme

abbrev pub after : Point → List ℕ → Point
after at text = point_behind (point_behind at []) text

-- a run of bytes stops before a byte that doesn't go on in it
pub stops_at : (goes_on : ℕ → Bool) (b : ℕ) (bytes : List ℕ) → goes_on b ≡ false → Stops goes_on (b ∷ bytes)
stops_at goes_on b bytes h c more e = let same : c ≡ b = cc in ap goes_on same ∙ h

-- a symbol, a name or a reserved word, and a numeral
pub symbol_here : (b : ℕ) (s : Symbol) (bytes : List ℕ) {at end : Point} {rest : List ℕ} {tokens : List Placed}
    → begins_name b ≡ false → is_digit b ≡ false → is_blank b ≡ false → begins_comment (b ∷ bytes) ≡ false
    → written_as symbol_text symbols (b ∷ []) ≡ Some s → Reads (after at (b ∷ [])) bytes tokens end rest
    → Reads at (b ∷ bytes) (here at (b ∷ []) (OfSymbol s) ∷ tokens) end rest
symbol_here b s bytes name digit blank comment is r =
    Reads.token {gap = []} {text = b ∷ []} {bytes = bytes} Gap.none (record { no_blank = blank; no_comment = comment }) (symbol_longest b bytes s name digit is) r

pub name_here : (b : ℕ) (text : List ℕ) (lexeme : Lexeme) (c : ℕ) (bytes : List ℕ) {at end : Point} {rest : List ℕ} {tokens : List Placed}
    → begins_name b ≡ true → is_blank b ≡ false → begins_comment (b ∷ (text ++ c ∷ bytes)) ≡ false → goes_on_in_name c ≡ false
    → token_of (b ∷ text) ≡ Some lexeme → Reads (after at (b ∷ text)) (c ∷ bytes) tokens end rest
    → Reads at (b ∷ (text ++ c ∷ bytes)) (here at (b ∷ text) lexeme ∷ tokens) end rest
name_here b text lexeme c bytes name blank comment ends is r =
    Reads.token {gap = []} {text = b ∷ text} {bytes = c ∷ bytes} Gap.none (record { no_blank = blank; no_comment = comment })
    (name_longest b text (c ∷ bytes) lexeme name (stops_at goes_on_in_name c bytes ends) is) r

pub number_here : (b : ℕ) (text : List ℕ) (lexeme : Lexeme) (c : ℕ) (bytes : List ℕ) {at end : Point} {rest : List ℕ} {tokens : List Placed}
    → is_digit b ≡ true → is_blank b ≡ false → begins_comment (b ∷ (text ++ c ∷ bytes)) ≡ false → is_digit c ≡ false
    → token_of (b ∷ text) ≡ Some lexeme → Reads (after at (b ∷ text)) (c ∷ bytes) tokens end rest
    → Reads at (b ∷ (text ++ c ∷ bytes)) (here at (b ∷ text) lexeme ∷ tokens) end rest
number_here b text lexeme c bytes digit blank comment ends is r =
    Reads.token {gap = []} {text = b ∷ text} {bytes = c ∷ bytes} Gap.none (record { no_blank = blank; no_comment = comment })
    (number_longest b text (c ∷ bytes) lexeme digit (stops_at is_digit c bytes ends) is) r

-- whether the bytes have no `;` and no `(*`
abbrev pub is_plain : List ℕ → Bool
is_plain [] = true
is_plain (b ∷ bytes) = not (nat_eq b 59) && (not (begins_comment (b ∷ bytes)) && is_plain bytes)

differs : (b : ℕ) → nat_eq b 59 ≡ false → b ≡ 59 → ⊥
differs b h e = absurd (grind (arith, nat_tests))

one_more : (b : ℕ) (bytes : List ℕ) (semicolon comment more : Bool) → nat_eq b 59 ≡ semicolon → begins_comment (b ∷ bytes) ≡ comment
    → (more ≡ true → Unbroken bytes) → (not semicolon && (not comment && more)) ≡ true → Unbroken (b ∷ bytes)
one_more b bytes false false more p q r h = Unbroken.byte (differs b p) q (r h)
one_more b bytes true comment more p q r h = absurd (false≢true h)
one_more b bytes false true more p q r h = absurd (false≢true h)

pub plain_unbroken : (bytes : List ℕ) → is_plain bytes ≡ true → Unbroken bytes
plain_unbroken [] h = Unbroken.none
plain_unbroken (b ∷ bytes) h = one_more b bytes (nat_eq b 59) (begins_comment (b ∷ bytes)) (is_plain bytes) refl refl (λ e. plain_unbroken bytes e) h
