-- Printed names are names.
use Rattle.std.proofs.Common.{◌≡◌, ℕ, zero, suc, ◌<◌, ◌≤◌, ◌^◌, Bool, true, false, ◌&&◌, nat_lt, List, [], ◌∷◌, ◌++◌, length, Some, refl, sym, ap, ◌∙◌, subst, arith, get_or}
use Rattle.std.specs.Prelude.{decimal}
use Rattle.std.specs.List.{list_all, position_or_len, range_with_len}
use Rattle.std.proofs.lemmas.Bool.Decides.{nat_tests}
use Rattle.std.proofs.lemmas.List.Folds.{list_all-append}
use Rattle.std.proofs.lemmas.List.FromFn.{get_or-range_with_len, length-range_with_len}
use Rattle.std.proofs.lemmas.List.Sums.{fails_before_first}
use Rattle.lego_lexer.specs.Bytes.{is_digit, is_letter, begins_name, goes_on_in_name}
use Rattle.lego_lexer.specs.Tokens.{Name, word_text, words, has_name_form, token_of}
use Rattle.lego_lexer.proofs.TokenLemmas.{and_true, and_false, not_written, name_token, name_no_symbol}
use Rattle.lego_print.specs.Names.{Scope, is_free, numbered, names_in_use, first_free, printed_name}
use Rattle.lego_print.proofs.NamesLemmas.{first_free_is}
use Rattle.lego_print.proofs.Pigeonhole.{numbered_suc}
use Rattle.lego_print.proofs.ReadForms.{name_form}
use Rattle.lego_print.proofs.ReadTokens.{IsNumberText, decimal_text, digit_goes_on}

digit_no_letter : (b : ℕ) → is_digit b ≡ true → is_letter b ≡ false
digit_no_letter b h = grind (arith, nat_tests)

all_both : (p : ℕ → Bool) (xs ys : List ℕ) → list_all p xs ≡ true → list_all p ys ≡ true → list_all p (xs ++ ys) ≡ true
all_both p xs ys h k = let e = list_all-append p xs ys in e ∙ (ap (λ b. b && list_all p ys) h ∙ k)

not_all : (p : ℕ → Bool) (xs ys : List ℕ) → list_all p ys ≡ false → list_all p (xs ++ ys) ≡ false
not_all p xs ys h = let e = list_all-append p xs ys in e ∙ and_false (list_all p xs) (list_all p ys) h

words_are_letters : list_all (λ w. list_all is_letter (word_text w)) words ≡ true
words_are_letters = refl

-- digits behind a name make a name
with_digits : (text digits : List ℕ) → has_name_form text ≡ true → list_all is_digit digits ≡ true → list_all is_letter digits ≡ false
    → token_of (text ++ digits) ≡ Some (Name (text ++ digits))
with_digits [] digits form all some = absurd (cc)
with_digits (b ∷ t) digits form all some =
    let parts = and_true (begins_name b) (list_all goes_on_in_name t) form in
    let name : has_name_form (b ∷ (t ++ digits)) ≡ true = ap (λ v. v && list_all goes_on_in_name (t ++ digits)) parts.0 ∙ all_both goes_on_in_name t digits parts.1 (on_all digits all) in
    name_token (b ∷ (t ++ digits)) (not_written word_text (list_all is_letter) (b ∷ (t ++ digits)) words words_are_letters (not_all is_letter (b ∷ t) digits some))
    (name_no_symbol b (t ++ digits) parts.0) name
  where
    on_all : (ds : List ℕ) → list_all is_digit ds ≡ true → list_all goes_on_in_name ds ≡ true
    on_all [] h = refl
    on_all (d ∷ ds) h = let k = and_true (is_digit d) (list_all is_digit ds) h in ap (λ v. v && list_all goes_on_in_name ds) (digit_goes_on d k.0) ∙ on_all ds k.1

no_letters : (text : List ℕ) (n : ℕ) → IsNumberText text n → list_all is_letter text ≡ false
no_letters text n t =
    subst (λ (x : List ℕ). list_all is_letter x ≡ false) (sym t.is) (ap (λ v. v && list_all is_letter t.rest) (digit_no_letter t.first t.begins))

numbered_name : (wished : List ℕ) (n : ℕ) → n < 2 ^ 64 → token_of wished ≡ Some (Name wished) → token_of (numbered wished n) ≡ Some (Name (numbered wished n))
numbered_name wished zero l h = h
numbered_name wished (suc n) l h =
    let t = decimal_text (suc n) l in
    subst (λ (x : List ℕ). token_of x ≡ Some (Name x)) (sym (numbered_suc wished n))
    (with_digits wished (decimal (suc n)) (name_form wished h) (subst (λ (x : List ℕ). list_all is_digit x ≡ true) (sym t.is) t.digits) (no_letters (decimal (suc n)) (suc n) t))

first_free_within : (scope : Scope) (wished : List ℕ) → first_free scope wished ≤ names_in_use scope
unfolding first_free
first_free_within scope wished =
    let tests = λ (m : ℕ). is_free scope (numbered wished m) in
    let all = range_with_len 0 (names_in_use scope) in
    let long : length all ≡ names_in_use scope = length-range_with_len 0 (names_in_use scope) in
    let item : (m : ℕ) → m < names_in_use scope → tests (get_or all m 0) ≡ tests m =
    λ m l. ap tests (get_or-range_with_len 0 (names_in_use scope) m 0 l ∙ omega arith) in
    elim (nat_lt (position_or_len tests all) (length all)) as (λ b. nat_lt (position_or_len tests all) (length all) ≡ b → position_or_len tests all ≤ names_in_use scope) [
      | true ↦ λ e. let within : position_or_len tests all < length all = grind (arith, nat_tests) in omega arith
      | false ↦ λ e.
          let past : length all ≤ position_or_len tests all = grind (arith, nat_tests) in
          let none : (m : ℕ) → m < names_in_use scope → tests m ≡ false =
          λ m l. sym (item m l) ∙ fails_before_first tests all m 0 (omega arith) in
          let last : first_free scope wished ≡ names_in_use scope =
          first_free_is scope wished (names_in_use scope) (omega arith) none (λ l. absurd (omega arith)) in
          omega arith
    ] refl

-- the printed name of a wished name that is a name
pub printed_is_name : (scope : Scope) (wished : List ℕ) → names_in_use scope < 2 ^ 64 → token_of wished ≡ Some (Name wished)
    → token_of (printed_name scope wished) ≡ Some (Name (printed_name scope wished))
printed_is_name scope wished few h =
    let within = first_free_within scope wished in
    numbered_name wished (first_free scope wished) (omega arith) h
