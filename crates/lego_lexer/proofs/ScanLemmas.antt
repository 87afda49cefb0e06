-- Tokens in ranges of bytes.
use Rattle.std.proofs.Common.{◌≡◌, ℕ, ◌+◌, ◌<◌, ◌≤◌, zero, suc, Bool, true, false, ◌&&◌, nat_eq, nat_lt, List, [], ◌∷◌, ◌++◌, length, get_or, drop, Some, None, refl, sym, ap, ◌∙◌, subst, arith, drop-cons}
use Rattle.std.specs.Prelude.{slice_range}
use Rattle.std.specs.List.{list_all}
use Rattle.std.proofs.lemmas.List.Folds.{drop_split}
use Rattle.lego_base.specs.declared.place.Place.{Place}
use Rattle.lego_base.specs.declared.limits.TheConstants.{MAX_NAME}
use Rattle.lego_lexer.specs.Limits.{MAX_NUMERAL}
use Rattle.lego_lexer.specs.Bytes.{is_digit, begins_name, goes_on_in_name, begins_with, BeginsToken}
use Rattle.lego_lexer.specs.Tokens.{Lexeme, Name, Number, OfSymbol, word_text, words, symbol_text, symbols, written_as, has_name_form, has_number_form, number_value, token_of, IsLongest, FaultAt}
use Rattle.lego_lexer.specs.private.Scanned.{IsRunEnd}
use Rattle.lego_lexer.specs.declared.token.Symbol.{Symbol}
use Rattle.lego_lexer.specs.declared.token.Symbol.TheVariants.{Arrow}
use Rattle.lego_lexer.specs.declared.token.LexFault.TheVariants.{BadByte, LongName, BigLevel}
use Rattle.lego_lexer.proofs.SliceLemmas.{slice_none, slice_cons, slice_join}
use Rattle.lego_lexer.proofs.TokenLemmas.{Stops, name_longest, number_longest, symbol_longest, arrow_longest, no_token_here, name_token, number_token, and_true, has_symbol_form, name_no_symbol, digit_no_symbol, digit_no_name, test_equal}
use Rattle.lego_lexer.proofs.CommentLemmas.{begins_two, begins_at}
use Rattle.std.proofs.lemmas.Bool.Decides.{nat_tests}
use mathlib.Core.Bool.{true≢false}

-- the first byte behind a run
first_is : (bytes : List ℕ) (to c : ℕ) (more : List ℕ) → drop to bytes ≡ c ∷ more → (to < length bytes) × (get_or bytes to 0 ≡ c)
first_is [] zero c more e = absurd (cc)
first_is [] (suc to) c more e = absurd (cc)
first_is (b ∷ bytes) zero c more e = (omega arith, cc)
first_is (b ∷ bytes) (suc to) c more e = let t = first_is bytes to c more e in (omega (arith, t.0), t.1)

pub stops_there : (p : ℕ → Bool) (bytes : List ℕ) (to : ℕ) → (to < length bytes → p (get_or bytes to 0) ≡ false) → Stops p (drop to bytes)
stops_there p bytes to h c more e = let t = first_is bytes to c more e in ap p (sym t.1) ∙ h t.0

all-push : (p : ℕ → Bool) (xs : List ℕ) (y : ℕ) → list_all p xs ≡ true → p y ≡ true → list_all p (xs ++ y ∷ []) ≡ true
all-push p [] y h e = ap (λ v. v && true) e
all-push p (x ∷ xs) y h e =
    let t = and_true (p x) (list_all p xs) h in
    ap (λ v. v && list_all p (xs ++ y ∷ [])) t.0 ∙ all-push p xs y t.1 e

-- a run grows by one byte
pub run_more : (p : ℕ → Bool) (bytes : List ℕ) (at to : ℕ) → at ≤ to → to < length bytes → list_all p (slice_range bytes at to) ≡ true
    → p (get_or bytes to 0) ≡ true → list_all p (slice_range bytes at (to + 1)) ≡ true
run_more p bytes at to h within all e =
    let next : to ≤ to + 1 = omega arith in
    let last : to < to + 1 = omega arith in
    let one : slice_range bytes to (to + 1) ≡ get_or bytes to 0 ∷ [] = slice_cons bytes to (to + 1) last within ∙ ap (λ xs. get_or bytes to 0 ∷ xs) (slice_none bytes (to + 1)) in
    ap (list_all p) (slice_join bytes at to (to + 1) h next ∙ ap (λ xs. slice_range bytes at to ++ xs) one) ∙ all-push p (slice_range bytes at to) (get_or bytes to 0) all e

-- a run that begins isn't empty
run_goes_on : (p : ℕ → Bool) (bytes : List ℕ) (at to : ℕ) → at < length bytes → p (get_or bytes at 0) ≡ true → IsRunEnd p bytes at to → at < to
run_goes_on p bytes at to within h run =
    elim (nat_lt at to) as (λ v. nat_lt at to ≡ v → at < to) [
      | true ↦ λ e. below at to e
      | false ↦ λ e.
          let same : to ≡ at = equal at to e run.after in
          let there : to < length bytes = omega arith in
          absurd (true≢false (sym h ∙ (ap (λ i. p (get_or bytes i 0)) (sym same) ∙ run.stops there)))
    ] refl
  where
    below : (a b : ℕ) → nat_lt a b ≡ true → a < b
    below a b e = grind (arith, nat_tests)

    equal : (a b : ℕ) → nat_lt a b ≡ false → a ≤ b → b ≡ a
    equal a b e h = grind (arith, nat_tests)

begins_goes_on : (b : ℕ) → begins_name b ≡ true → goes_on_in_name b ≡ true
begins_goes_on b h = rw h refl

module _ (bytes : List ℕ) (at to : ℕ) (within : at < length bytes) where
  text_is : at < to → slice_range bytes at to ≡ get_or bytes at 0 ∷ slice_range bytes (at + 1) to
  text_is h = slice_cons bytes at to h within

  module _ (first : begins_name (get_or bytes at 0) ≡ true) (run : IsRunEnd goes_on_in_name bytes at to) where
    pub name_some : at < to
    name_some = run_goes_on goes_on_in_name bytes at to within (begins_goes_on (get_or bytes at 0) first) run

    name_form : has_name_form (slice_range bytes at to) ≡ true
    name_form =
        let text = text_is name_some in
        let all = and_true (goes_on_in_name (get_or bytes at 0)) (list_all goes_on_in_name (slice_range bytes (at + 1) to)) (ap (list_all goes_on_in_name) (sym text) ∙ run.all) in
        ap has_name_form text ∙ (ap (λ v. v && list_all goes_on_in_name (slice_range bytes (at + 1) to)) first ∙ all.1)

    pub name_is : written_as word_text words (slice_range bytes at to) ≡ None → token_of (slice_range bytes at to) ≡ Some (Name (slice_range bytes at to))
    name_is none = name_token (slice_range bytes at to) none (ap has_symbol_form (text_is name_some) ∙ name_no_symbol (get_or bytes at 0) (slice_range bytes (at + 1) to) first) name_form

    pub name_there : (lexeme : Lexeme) → token_of (slice_range bytes at to) ≡ Some lexeme → IsLongest (slice_range bytes at to) (drop to bytes) lexeme
    name_there lexeme is =
        let text = text_is name_some in
        subst (λ t. IsLongest t (drop to bytes) lexeme) (sym text)
        (name_longest (get_or bytes at 0) (slice_range bytes (at + 1) to) (drop to bytes) lexeme first (stops_there goes_on_in_name bytes to run.stops) (ap token_of (sym text) ∙ is))

    pub long_name_there : (place : Place) → BeginsToken (drop at bytes) → written_as word_text words (slice_range bytes at to) ≡ None
        → MAX_NAME < length (slice_range bytes at to) → FaultAt place (drop at bytes) (LongName place)
    long_name_there place begins none long =
        let split : drop at bytes ≡ slice_range bytes at to ++ drop to bytes = drop_split bytes at to run.after in
        subst (λ xs. FaultAt place xs (LongName place)) (sym split)
        (FaultAt.long_name (subst BeginsToken split begins) (name_there (Name (slice_range bytes at to)) (name_is none)) long)

  module _ (first : is_digit (get_or bytes at 0) ≡ true) (run : IsRunEnd is_digit bytes at to) where
    pub number_some : at < to
    number_some = run_goes_on is_digit bytes at to within first run

    number_is : token_of (slice_range bytes at to) ≡ Some (Number (number_value (slice_range bytes at to)))
    number_is =
        let text = text_is number_some in
        number_token (slice_range bytes at to)
        (ap has_name_form text ∙ ap (λ v. v && list_all goes_on_in_name (slice_range bytes (at + 1) to)) (digit_no_name (get_or bytes at 0) first))
        (ap has_symbol_form text ∙ digit_no_symbol (get_or bytes at 0) (slice_range bytes (at + 1) to) first)
        (ap has_number_form text ∙ (ap (list_all is_digit) (sym text) ∙ run.all))

    pub number_there : IsLongest (slice_range bytes at to) (drop to bytes) (Number (number_value (slice_range bytes at to)))
    number_there =
        let text = text_is number_some in
        let value = Number (number_value (slice_range bytes at to)) in
        subst (λ t. IsLongest t (drop to bytes) value) (sym text)
        (number_longest (get_or bytes at 0) (slice_range bytes (at + 1) to) (drop to bytes) value first (stops_there is_digit bytes to run.stops) (ap token_of (sym text) ∙ number_is))

    pub big_level_there : (place : Place) → BeginsToken (drop at bytes) → MAX_NUMERAL < number_value (slice_range bytes at to) → FaultAt place (drop at bytes) (BigLevel place)
    big_level_there place begins big =
        let split : drop at bytes ≡ slice_range bytes at to ++ drop to bytes = drop_split bytes at to run.after in
        subst (λ xs. FaultAt place xs (BigLevel place)) (sym split) (FaultAt.big_level (subst BeginsToken split begins) number_there big)

module _ (bytes : List ℕ) (at : ℕ) (within : at < length bytes) where
  one_byte : slice_range bytes at (at + 1) ≡ get_or bytes at 0 ∷ []
  one_byte = slice_cons bytes at (at + 1) (omega arith) within ∙ ap (λ xs. get_or bytes at 0 ∷ xs) (slice_none bytes (at + 1))

  pub symbol_there : (s : Symbol) → begins_name (get_or bytes at 0) ≡ false → is_digit (get_or bytes at 0) ≡ false
      → written_as symbol_text symbols (get_or bytes at 0 ∷ []) ≡ Some s → IsLongest (slice_range bytes at (at + 1)) (drop (at + 1) bytes) (OfSymbol s)
  symbol_there s name digit is =
      subst (λ t. IsLongest t (drop (at + 1) bytes) (OfSymbol s)) (sym one_byte) (symbol_longest (get_or bytes at 0) (drop (at + 1) bytes) s name digit is)

  pub arrow_within : true ≡ begins_with 45 62 (drop at bytes) → at + 1 < length bytes
  arrow_within h = begins_two 45 62 at bytes within (sym h)

  pub arrow_there : true ≡ begins_with 45 62 (drop at bytes) → IsLongest (slice_range bytes at (at + 2)) (drop (at + 2) bytes) (OfSymbol Arrow)
  arrow_there h =
      let more = arrow_within h in
      let bytes_are = and_true (nat_eq (get_or bytes at 0) 45) (nat_eq (get_or bytes (at + 1) 0) 62) (sym (begins_at 45 62 at bytes more) ∙ sym h) in
      let two : at + 1 + 1 ≡ at + 2 = omega arith in
      let text : slice_range bytes at (at + 2) ≡ get_or bytes at 0 ∷ get_or bytes (at + 1) 0 ∷ [] =
      slice_cons bytes at (at + 2) (omega arith) within ∙ ap (λ xs. get_or bytes at 0 ∷ xs)
      (slice_cons bytes (at + 1) (at + 2) (omega arith) more ∙ ap (λ xs. get_or bytes (at + 1) 0 ∷ xs) (ap (λ i. slice_range bytes i (at + 2)) two ∙ slice_none bytes (at + 2))) in
      let dash : get_or bytes at 0 ≡ 45 = test_equal (get_or bytes at 0) 45 bytes_are.0 in
      let angle : get_or bytes (at + 1) 0 ≡ 62 = test_equal (get_or bytes (at + 1) 0) 62 bytes_are.1 in
      let written : slice_range bytes at (at + 2) ≡ 45 ∷ 62 ∷ [] = text ∙ (ap (λ x. x ∷ get_or bytes (at + 1) 0 ∷ []) dash ∙ ap (λ x. 45 ∷ x ∷ []) angle) in
      subst (λ t. IsLongest t (drop (at + 2) bytes) (OfSymbol Arrow)) (sym written) (arrow_longest (drop (at + 2) bytes))

  pub bad_byte_there : (place : Place) → BeginsToken (drop at bytes) → begins_name (get_or bytes at 0) ≡ false → is_digit (get_or bytes at 0) ≡ false
      → false ≡ begins_with 45 62 (drop at bytes) → written_as symbol_text symbols (get_or bytes at 0 ∷ []) ≡ None
      → FaultAt place (drop at bytes) (BadByte place (get_or bytes at 0))
  bad_byte_there place begins name digit arrow none =
      let first : drop at bytes ≡ get_or bytes at 0 ∷ drop (suc at) bytes = drop-cons bytes at 0 within in
      subst (λ xs. FaultAt place xs (BadByte place (get_or bytes at 0))) (sym first) (
      FaultAt.bad_byte (subst BeginsToken first begins)
      (no_token_here (get_or bytes at 0) (drop (suc at) bytes) name digit (ap (begins_with 45 62) (sym first) ∙ sym arrow) none)
      )
