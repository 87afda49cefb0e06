-- Which texts are tokens, and which tokens are longest.
use Rattle.std.proofs.Common.{◌≡◌, ℕ, Bool, true, false, not, ◌&&◌, nat_eq, List, [], ◌∷◌, ◌++◌, Some, None, refl, sym, ap, ◌∙◌, arith}
use Rattle.std.specs.List.{list_all}
use Rattle.std.proofs.lemmas.Bool.Decides.{nat_tests}
use mathlib.Core.Bool.{true≢false}
use Rattle.lego_base.specs.Names.{same_text}
use Rattle.lego_lexer.specs.Bytes.{is_digit, begins_name, goes_on_in_name, begins_with}
use Rattle.lego_lexer.specs.Tokens.{Lexeme, Name, Number, OfWord, OfSymbol, word_text, words, symbol_text, symbols, written_as, has_name_form, has_number_form, number_value, token_of, IsLongest, NoToken}
use Rattle.lego_lexer.specs.declared.token.Word.{Word}
use Rattle.lego_lexer.specs.declared.token.Symbol.{Symbol}
use Rattle.lego_lexer.specs.declared.token.Symbol.TheVariants.{Arrow}

pub test_equal : (a b : ℕ) → nat_eq a b ≡ true → a ≡ b
test_equal a b h = grind (arith, nat_tests)

pub and_true : (a b : Bool) → (a && b) ≡ true → (a ≡ true) × (b ≡ true)
and_true true b h = (refl, h)
and_true false b h = absurd (true≢false (sym h))

pub and_false : (a b : Bool) → b ≡ false → (a && b) ≡ false
and_false true b h = h
and_false false b h = refl

same_text_equal : (a b : List ℕ) → same_text a b ≡ true → a ≡ b
same_text_equal [] [] h = refl
same_text_equal [] (y ∷ ys) h = absurd (cc)
same_text_equal (x ∷ xs) [] h = absurd (cc)
same_text_equal (x ∷ xs) (y ∷ ys) h =
    let t = and_true (nat_eq x y) (same_text xs ys) h in
    let e : x ≡ y = test_equal x y t.0 in
    rw (e, same_text_equal xs ys t.1) refl

name_no_digit : (b : ℕ) → begins_name b ≡ true → is_digit b ≡ false
name_no_digit b h = grind (arith, nat_tests)

name_no_dash : (b : ℕ) → begins_name b ≡ true → nat_eq b 45 ≡ false
name_no_dash b h = grind (arith, nat_tests)

pub digit_no_name : (b : ℕ) → is_digit b ≡ true → begins_name b ≡ false
digit_no_name b h = grind (arith, nat_tests)

digit_no_dash : (b : ℕ) → is_digit b ≡ true → nat_eq b 45 ≡ false
digit_no_dash b h = grind (arith, nat_tests)

-- what is written in a form isn't written as a text of another form
module _ {X : Type 0} (text_of : X → List ℕ) (form : List ℕ → Bool) (text : List ℕ) where
  pub not_written : (all : List X) → list_all (λ x. form (text_of x)) all ≡ true → form text ≡ false → written_as text_of all text ≡ None
  not_written [] h f = refl
  not_written (x ∷ all) h f =
      let t = and_true (form (text_of x)) (list_all (λ y. form (text_of y)) all) h in
      elim (same_text (text_of x) text) as (λ b. same_text (text_of x) text ≡ b → written_as text_of (x ∷ all) text ≡ None) [
        | true ↦ λ e. absurd (true≢false (sym (ap form (sym (same_text_equal (text_of x) text e)) ∙ t.0) ∙ f))
        | false ↦ λ e. rw e (not_written all t.1 f)
      ] refl

-- one byte that begins no name, no numeral and no `->`, or `->`
abbrev pub has_symbol_form : List ℕ → Bool
has_symbol_form [] = false
has_symbol_form (b ∷ []) = not (begins_name b) && (not (is_digit b) && not (nat_eq b 45))
has_symbol_form (b ∷ c ∷ []) = nat_eq b 45 && nat_eq c 62
has_symbol_form (b ∷ c ∷ d ∷ bytes) = false

words_are_names : list_all (λ w. has_name_form (word_text w)) words ≡ true
words_are_names = refl

symbols_are_symbols : list_all (λ s. has_symbol_form (symbol_text s)) symbols ≡ true
symbols_are_symbols = refl

pub no_word : (text : List ℕ) → has_name_form text ≡ false → written_as word_text words text ≡ None
no_word text h = not_written word_text has_name_form text words words_are_names h

pub no_symbol : (text : List ℕ) → has_symbol_form text ≡ false → written_as symbol_text symbols text ≡ None
no_symbol text h = not_written symbol_text has_symbol_form text symbols symbols_are_symbols h

pub no_token : (text : List ℕ) → has_name_form text ≡ false → has_symbol_form text ≡ false → has_number_form text ≡ false → token_of text ≡ None
no_token text name symbol number = rw (no_word text name, no_symbol text symbol, name, number) refl

pub name_token : (text : List ℕ) → written_as word_text words text ≡ None → has_symbol_form text ≡ false → has_name_form text ≡ true → token_of text ≡ Some (Name text)
name_token text word symbol name = rw (word, no_symbol text symbol, name) refl

pub word_token : (text : List ℕ) (w : Word) → written_as word_text words text ≡ Some w → token_of text ≡ Some (OfWord w)
word_token text w h = rw h refl

pub number_token : (text : List ℕ) → has_name_form text ≡ false → has_symbol_form text ≡ false → has_number_form text ≡ true
    → token_of text ≡ Some (Number (number_value text))
number_token text name symbol number = rw (no_word text name, no_symbol text symbol, name, number) refl

pub symbol_token : (text : List ℕ) (s : Symbol) → has_name_form text ≡ false → written_as symbol_text symbols text ≡ Some s → token_of text ≡ Some (OfSymbol s)
symbol_token text s name symbol = rw (no_word text name, symbol) refl

some_none : {X : Type 0} (x : X) → Some x ≡ None → ⊥
some_none x h = cc

-- a symbol of one byte isn't the front of `->`
pub symbol_alone : (b : ℕ) (s : Symbol) → written_as symbol_text symbols (b ∷ []) ≡ Some s → nat_eq b 45 ≡ false
symbol_alone b s h =
    elim (nat_eq b 45) as (λ v. nat_eq b 45 ≡ v → nat_eq b 45 ≡ false) [
      | false ↦ λ e. e
      | true ↦ λ e.
          let dash : b ≡ 45 = test_equal b 45 e in
          absurd (some_none s (sym h ∙ ap (λ x. written_as symbol_text symbols (x ∷ [])) dash))
    ] refl

pub name_no_symbol : (b : ℕ) (t : List ℕ) → begins_name b ≡ true → has_symbol_form (b ∷ t) ≡ false
name_no_symbol b [] h = ap (λ v. not v && (not (is_digit b) && not (nat_eq b 45))) h
name_no_symbol b (c ∷ []) h = ap (λ v. v && nat_eq c 62) (name_no_dash b h)
name_no_symbol b (c ∷ d ∷ t) h = refl

pub digit_no_symbol : (b : ℕ) (t : List ℕ) → is_digit b ≡ true → has_symbol_form (b ∷ t) ≡ false
digit_no_symbol b [] h = and_false (not (begins_name b)) _ (ap (λ v. not v && not (nat_eq b 45)) h)
digit_no_symbol b (c ∷ []) h = ap (λ v. v && nat_eq c 62) (digit_no_dash b h)
digit_no_symbol b (c ∷ d ∷ t) h = refl

all-append : (p : ℕ → Bool) (xs : List ℕ) (y : ℕ) (ys : List ℕ) → p y ≡ false → list_all p (xs ++ y ∷ ys) ≡ false
all-append p [] y ys h = rw h refl
all-append p (x ∷ xs) y ys h = and_false (p x) (list_all p (xs ++ y ∷ ys)) (all-append p xs y ys h)

long_no_symbol : (b : ℕ) (t : List ℕ) (c : ℕ) (more : List ℕ) → nat_eq b 45 ≡ false → has_symbol_form (b ∷ (t ++ c ∷ more)) ≡ false
long_no_symbol b [] c [] h = rw h refl
long_no_symbol b [] c (d ∷ more) h = refl
long_no_symbol b (x ∷ []) c more h = refl
long_no_symbol b (x ∷ y ∷ t) c more h = refl

-- a run of bytes goes on no further
abbrev pub Stops : (ℕ → Bool) → List ℕ → Type 0
Stops p rest = (c : ℕ) (more : List ℕ) → rest ≡ c ∷ more → p c ≡ false

pub name_longest : (b : ℕ) (t rest : List ℕ) (lexeme : Lexeme) → begins_name b ≡ true → Stops goes_on_in_name rest
    → token_of (b ∷ t) ≡ Some lexeme → IsLongest (b ∷ t) rest lexeme
name_longest b t rest lexeme begins stops is = record {
  is_token = is;
  no_longer = λ c more back e.
      no_token (b ∷ (t ++ c ∷ more)) (and_false (begins_name b) _ (all-append goes_on_in_name t c more (stops c (more ++ back) e)))
      (long_no_symbol b t c more (name_no_dash b begins)) (ap (λ v. v && list_all is_digit (t ++ c ∷ more)) (name_no_digit b begins));
}

pub number_longest : (b : ℕ) (t rest : List ℕ) (lexeme : Lexeme) → is_digit b ≡ true → Stops is_digit rest
    → token_of (b ∷ t) ≡ Some lexeme → IsLongest (b ∷ t) rest lexeme
number_longest b t rest lexeme begins stops is = record {
  is_token = is;
  no_longer = λ c more back e.
      no_token (b ∷ (t ++ c ∷ more)) (ap (λ v. v && list_all goes_on_in_name (t ++ c ∷ more)) (digit_no_name b begins))
      (long_no_symbol b t c more (digit_no_dash b begins)) (and_false (is_digit b) _ (all-append is_digit t c more (stops c (more ++ back) e)));
}

pub symbol_longest : (b : ℕ) (rest : List ℕ) (s : Symbol) → begins_name b ≡ false → is_digit b ≡ false
    → written_as symbol_text symbols (b ∷ []) ≡ Some s → IsLongest (b ∷ []) rest (OfSymbol s)
symbol_longest b rest s name digit is = record {
  is_token = symbol_token (b ∷ []) s (ap (λ v. v && list_all goes_on_in_name []) name) is;
  no_longer = λ c more back e.
      no_token (b ∷ c ∷ more) (ap (λ v. v && list_all goes_on_in_name (c ∷ more)) name)
      (long_no_symbol b [] c more (symbol_alone b s is)) (ap (λ v. v && list_all is_digit (c ∷ more)) digit);
}

pub arrow_longest : (rest : List ℕ) → IsLongest (45 ∷ 62 ∷ []) rest (OfSymbol Arrow)
arrow_longest rest = record { is_token = refl; no_longer = λ c more back e. no_token (45 ∷ 62 ∷ c ∷ more) refl refl refl }

pub no_token_here : (b : ℕ) (bytes : List ℕ) → begins_name b ≡ false → is_digit b ≡ false → begins_with 45 62 (b ∷ bytes) ≡ false
    → written_as symbol_text symbols (b ∷ []) ≡ None → NoToken (b ∷ bytes)
no_token_here b bytes name digit arrow none [] back e = refl
no_token_here b bytes name digit arrow none (x ∷ []) back e =
    let same : x ≡ b = cc in
    rw (
      no_word (x ∷ []) (ap (λ y. begins_name y && list_all goes_on_in_name []) same ∙ ap (λ v. v && list_all goes_on_in_name []) name),
      ap (λ y. written_as symbol_text symbols (y ∷ [])) same ∙ none,
      ap (λ y. begins_name y && list_all goes_on_in_name []) same ∙ ap (λ v. v && list_all goes_on_in_name []) name,
      ap (λ y. is_digit y && list_all is_digit []) same ∙ ap (λ v. v && list_all is_digit []) digit,
    ) refl
no_token_here b bytes name digit arrow none (x ∷ y ∷ front) back e =
    let same : x ≡ b = cc in
    no_token (x ∷ y ∷ front) (ap (λ z. begins_name z && list_all goes_on_in_name (y ∷ front)) same ∙ ap (λ v. v && list_all goes_on_in_name (y ∷ front)) name)
    (no_arrow front (ap (begins_with 45 62) (sym e) ∙ arrow)) (ap (λ z. is_digit z && list_all is_digit (y ∷ front)) same ∙ ap (λ v. v && list_all is_digit (y ∷ front)) digit)
  where
    no_arrow : (front : List ℕ) → (nat_eq x 45 && nat_eq y 62) ≡ false → has_symbol_form (x ∷ y ∷ front) ≡ false
    no_arrow [] h = h
    no_arrow (z ∷ front) h = refl
