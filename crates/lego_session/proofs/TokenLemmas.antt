-- What the tokens of bytes are, and that they stand apart.
use Rattle.std.proofs.Common.{◌≡◌, ℕ, zero, suc, ◌+◌, ◌≤◌, Bool, true, false, nat_eq, if◌then◌else◌, List, [], ◌∷◌, ◌++◌, length, Option, Some, None, option_map, refl, sym, ap, ◌∙◌, subst, arith}
use Rattle.std.specs.Prelude.{slice_get}
use Rattle.std.specs.List.{AllByRecursion}
use Rattle.std.proofs.lemmas.Option.{same_Some}
use Rattle.lego_base.specs.Place.{behind}
use Rattle.lego_base.specs.declared.place.Place.{Place}
use Rattle.lego_base.proofs.PlaceLemmas.{behind-append}
use Rattle.lego_lexer.specs.declared.token.Word.{Word}
use Rattle.lego_lexer.specs.declared.token.Symbol.{Symbol}
use Rattle.lego_lexer.specs.Tokens.{Lexeme, Name, Number, OfWord, OfSymbol, word_text, words, symbol_text, symbols, written_as, has_name_form, has_number_form, number_value, or_else, token_of, Point, Placed, Reads, Tokens}

-- the parts that make a token, as they are tried in order
abbrev first_of_forms : Option Word → Option Symbol → Bool → Bool → List ℕ → ℕ → Option Lexeme
first_of_forms w s name number text value =
    or_else (option_map OfWord w) (or_else (option_map OfSymbol s)
    (or_else (if name then Some (Name text) else None) (if number then Some (Number value) else None)))

module _ (text other : List ℕ) (value : ℕ) where
  is_name_form : (w : Option Word) (s : Option Symbol) (name number : Bool)
      → first_of_forms w s name number text value ≡ Some (Name other) → (name ≡ true) × (text ≡ other)
  is_name_form (Some w) s name number h = absurd (cc)
  is_name_form None (Some s) name number h = absurd (cc)
  is_name_form None None true number h = (refl, cc)
  is_name_form None None false true h = absurd (cc)
  is_name_form None None false false h = absurd (cc)

named : (text other : List ℕ) → token_of text ≡ Some (Name other) → (has_name_form text ≡ true) × (text ≡ other)
named text other h =
    is_name_form text other (number_value text) (written_as word_text words text) (written_as symbol_text symbols text) (has_name_form text) (has_number_form text) h

-- the text of a name has the form of one
pub has_form : (text other : List ℕ) → token_of text ≡ Some (Name other) → has_name_form text ≡ true
has_form text other h = (named text other h).0

-- a name has the form of one
pub name_form : (text : List ℕ) → token_of text ≡ Some (Name text) → has_name_form text ≡ true
name_form text h = (named text text h).0

-- the lexeme of a name is itself that name
abbrev pub IsTrueName : Lexeme → Type 0
IsTrueName (Name text) = token_of text ≡ Some (Name text)
IsTrueName _ = Unit {0}

true_name : (text : List ℕ) (lexeme : Lexeme) → token_of text ≡ Some lexeme → IsTrueName lexeme
true_name text (Name other) h = let same = (named text other h).1 in subst (λ (t : List ℕ). token_of t ≡ Some (Name other)) same h
true_name text (Number n) h = tt
true_name text (OfWord w) h = tt
true_name text (OfSymbol s) h = tt

abbrev pub AreTrueNames : List Placed → Type 0
AreTrueNames tokens = AllByRecursion (λ t. IsTrueName t.lexeme) tokens

reads_true_names : {at end : Point} {bytes rest : List ℕ} {tokens : List Placed} → Reads at bytes tokens end rest → AreTrueNames tokens
reads_true_names Reads.none = tt
reads_true_names (Reads.token {text = text} {lexeme = lexeme} g b l r) = (true_name text lexeme l.is_token, reads_true_names r)

-- each name among the tokens of bytes is a name
pub tokens_are_names : {place : Place} {bytes : List ℕ} {tokens : List Placed} → Tokens place bytes tokens → AreTrueNames tokens
tokens_are_names t = reads_true_names t.reads

name_at : (tokens : List Placed) (i : ℕ) (t : Placed) (text : List ℕ) → AreTrueNames tokens → slice_get tokens i ≡ Some t → t.lexeme ≡ Name text
    → token_of text ≡ Some (Name text)
name_at [] i t text all h e = absurd (cc)
name_at (x ∷ tokens) zero t text all h e =
    let same : x.lexeme ≡ Name text = cc in
    subst IsTrueName same all.0
name_at (x ∷ tokens) (suc i) t text all h e = name_at tokens i t text all.1 h e

pub token_is_name : {place : Place} {bytes : List ℕ} {tokens : List Placed} (i : ℕ) (t : Placed) (text : List ℕ)
    → Tokens place bytes tokens → slice_get tokens i ≡ Some t → t.lexeme ≡ Name text → token_of text ≡ Some (Name text)
token_is_name {tokens = tokens} i t text k h e = name_at tokens i t text (tokens_are_names k) h e

-- a place behind bytes is on a later line, or so many columns later
record IsLater (p q : Place) (count : ℕ) : Type 0 where
  line : p.line ≤ q.line
  column : q.line ≡ p.line → q.column ≡ p.column + count

later : (p : Place) (bytes : List ℕ) → IsLater p (behind p bytes) (length bytes)
later p [] = record { line = omega arith; column = λ h. omega arith }
later p (byte ∷ bytes) = by_test (nat_eq byte 10) (λ q. later q bytes)
  where
    by_test : (b : Bool) → ((q : Place) → IsLater q (behind q bytes) (length bytes))
        → IsLater p (behind (if b then record { line = p.line + 1; column = 1 } else record { line = p.line; column = p.column + 1 }) bytes) (length (byte ∷ bytes))
    by_test true rest =
        let l = rest (record { line = p.line + 1; column = 1 }) in
        record { line = omega (arith, l.line); column = λ h. absurd (omega (arith, l.line, h)) }
    by_test false rest =
        let l = rest (record { line = p.line; column = p.column + 1 }) in
        record { line = omega (arith, l.line); column = λ h. omega (arith, l.column h) }

moves : (p : Place) (b : ℕ) (bytes : List ℕ) → behind p (b ∷ bytes) ≡ p → ⊥
moves p b bytes h =
    let l = later p (b ∷ bytes) in
    let line : (behind p (b ∷ bytes)).line ≡ p.line = ap (λ (q : Place). q.line) h in
    let column : (behind p (b ∷ bytes)).column ≡ p.column = ap (λ (q : Place). q.column) h in
    absurd (omega (arith, l.column line, column))

not_empty : (text : List ℕ) (lexeme : Lexeme) → token_of text ≡ Some lexeme → (b : ℕ) × (bytes : List ℕ) × (text ≡ b ∷ bytes)
not_empty [] lexeme h = absurd (cc)
not_empty (b ∷ bytes) lexeme h = (b, bytes, refl)

-- each token stands behind some of the bytes
stands_behind : {at end : Point} {bytes rest : List ℕ} {tokens : List Placed} → Reads at bytes tokens end rest → (i : ℕ) (t : Placed)
    → slice_get tokens i ≡ Some t → (before : List ℕ) × (t.place ≡ behind at.place before)
stands_behind Reads.none i t h = absurd (cc)
stands_behind (Reads.token {gap = gap} g b l r) zero t h = (gap, ap (λ (x : Placed). x.place) (sym (same_Some _ _ h)))
stands_behind (Reads.token {at = at} {gap = gap} {text = text} g b l r) (suc i) t h =
    let more = stands_behind r i t h in (
      gap ++ (text ++ more.0),
      more.1 ∙ sym (behind-append at.place gap (text ++ more.0) ∙ behind-append (behind at.place gap) text more.0),
    )

-- a later token stands elsewhere than the first
elsewhere : (p : Place) (text more : List ℕ) (lexeme : Lexeme) → token_of text ≡ Some lexeme → behind (behind p text) more ≡ p → ⊥
elsewhere p text more lexeme h e =
    let some = not_empty text lexeme h in
    let back : behind p (some.0 ∷ (some.1 ++ more)) ≡ p =
    ap (λ (t : List ℕ). behind p (t ++ more)) (sym some.2) ∙ (behind-append p text more ∙ e) in
    moves p some.0 (some.1 ++ more) back

apart : {at end : Point} {bytes rest : List ℕ} {tokens : List Placed} → Reads at bytes tokens end rest → (i j : ℕ) (a b : Placed)
    → slice_get tokens i ≡ Some a → slice_get tokens j ≡ Some b → a.place ≡ b.place → i ≡ j
apart Reads.none i j a b h k e = absurd (cc)
apart (Reads.token g n l r) zero zero a b h k e = refl
apart (Reads.token {at = at} {gap = gap} {text = text} {lexeme = lexeme} g n l r) zero (suc j) a b h k e =
    let more = stands_behind r j b k in
    let first : a.place ≡ behind at.place gap = ap (λ (x : Placed). x.place) (sym (same_Some _ _ h)) in
    absurd (elsewhere (behind at.place gap) text more.0 lexeme l.is_token (sym more.1 ∙ (sym e ∙ first)))
apart (Reads.token {at = at} {gap = gap} {text = text} {lexeme = lexeme} g n l r) (suc i) zero a b h k e =
    let more = stands_behind r i a h in
    let first : b.place ≡ behind at.place gap = ap (λ (x : Placed). x.place) (sym (same_Some _ _ k)) in
    absurd (elsewhere (behind at.place gap) text more.0 lexeme l.is_token (sym more.1 ∙ (e ∙ first)))
apart (Reads.token g n l r) (suc i) (suc j) a b h k e = ap suc (apart r i j a b h k e)

-- tokens of one list at one place are one token
pub tokens_apart : {place : Place} {bytes : List ℕ} {tokens : List Placed} → Tokens place bytes tokens → (i j : ℕ) (a b : Placed)
    → slice_get tokens i ≡ Some a → slice_get tokens j ≡ Some b → a.place ≡ b.place → i ≡ j
tokens_apart t i j a b h k e = apart t.reads i j a b h k e
