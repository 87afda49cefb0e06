-- Printed names are free.
use Rattle.std.proofs.Common.{◌≡◌, ℕ, ◌+◌, ◌<◌, ◌≤◌, ◌^◌, Bool, true, false, nat_lt, length, refl, sym, ap, ◌∙◌, List, arith}
use Rattle.std.specs.List.{position_or_len, range_with_len}
use Rattle.std.proofs.lemmas.Bool.Decides.{nat_tests}
use Rattle.std.proofs.lemmas.List.FromFn.{get_or-range_with_len, length-range_with_len}
use Rattle.std.proofs.lemmas.List.Sums.{passes_at_first, fails_before_first}
use Rattle.lego_print.specs.Names.{Scope, is_free, numbered, names_in_use, first_free, printed_name}
use Rattle.lego_print.proofs.NamesLemmas.{first_free_is}
use Rattle.lego_print.proofs.Pigeonhole.{last_is_free}

pub printed_free : (scope : Scope) (wished : List ℕ) → names_in_use scope < 2 ^ 64 → is_free scope (printed_name scope wished) ≡ true
unfolding first_free
printed_free scope wished few =
    let tests = λ (m : ℕ). is_free scope (numbered wished m) in
    let all = range_with_len 0 (names_in_use scope) in
    let long : length all ≡ names_in_use scope = length-range_with_len 0 (names_in_use scope) in
    let item : (m : ℕ) → m < names_in_use scope → tests (Rattle.std.proofs.Common.get_or all m 0) ≡ tests m =
    λ m l. ap tests (get_or-range_with_len 0 (names_in_use scope) m 0 l ∙ omega arith) in
    elim (nat_lt (position_or_len tests all) (length all)) as (λ b. nat_lt (position_or_len tests all) (length all) ≡ b → is_free scope (numbered wished (position_or_len tests all)) ≡ true) [
      | true ↦ λ e.
          let within : position_or_len tests all < length all = grind (arith, nat_tests) in
          sym (item (position_or_len tests all) (omega arith)) ∙ passes_at_first tests all 0 within
      | false ↦ λ e.
          let past : length all ≤ position_or_len tests all = grind (arith, nat_tests) in
          let none : (m : ℕ) → m < names_in_use scope → tests m ≡ false =
          λ m l. sym (item m l) ∙ fails_before_first tests all m 0 (omega arith) in
          let last : first_free scope wished ≡ names_in_use scope =
          first_free_is scope wished (names_in_use scope) (omega arith) none (λ l. absurd (omega arith)) in
          ap (λ (m : ℕ). is_free scope (numbered wished m)) last ∙ last_is_free scope wished few none
    ] refl
