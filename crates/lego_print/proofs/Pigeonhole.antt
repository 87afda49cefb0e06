-- Of more texts that differ than there are names in use, one is free.
use Rattle.std.proofs.Common.{◌≡◌, ◌≢◌, ℕ, zero, suc, ◌+◌, ◌<◌, ◌≤◌, ◌^◌, Bool, true, false, not, ◌||◌, nat_eq, nat_lt, if◌then◌else◌, List, [], ◌∷◌, ◌++◌, length, Option, Some, None, option_map, unwrap_or, refl, sym, ap, ◌∙◌, arith}
use Rattle.std.specs.Prelude.{slice_get, decimal}
use Rattle.std.specs.List.{list_any}
use Rattle.std.proofs.lemmas.Bool.Decides.{nat_tests}
use Rattle.std.proofs.lemmas.Fmt.{decimal_injective, decimal_nonempty}
use Rattle.lego_base.specs.Names.{same_text}
use Rattle.lego_grammar.specs.Grammar.{Names}
use Rattle.lego_print.specs.Names.{Scope, is_text_of, is_printed_as, is_free, numbered, names_in_use}
use Rattle.lego_print.proofs.Texts.{same_text_equal}

lt_true : (m n : ℕ) → m < n → nat_lt m n ≡ true
lt_true m n l = grind (arith, nat_tests)

lt_false : (m n : ℕ) → n ≤ m → nat_lt m n ≡ false
lt_false m n l = grind (arith, nat_tests)

-- a number that goes past one place
pub skip : ℕ → ℕ → ℕ
skip k m = if nat_lt m k then m else suc m

skip_low : (k m : ℕ) → m < k → skip k m ≡ m
unfolding skip
skip_low k m l = rw (lt_true m k l) refl

skip_high : (k m : ℕ) → k ≤ m → skip k m ≡ suc m
unfolding skip
skip_high k m l = rw (lt_false m k l) refl

-- where a test of numbers below n succeeds, or that it fails at all of them
pub data Search (p : ℕ → Bool) (n : ℕ) : Type 0 where
  at : (k : ℕ) → k < n → p k ≡ true → Search p n
  nowhere : ((k : ℕ) → k < n → p k ≡ false) → Search p n

search_below : (p : ℕ → Bool) (n : ℕ) → Search p n
search_below p zero = Search.nowhere (λ k l. absurd (omega arith))
search_below p (suc n) = by_rest (search_below p n)
  where
    all : ((k : ℕ) → k < n → p k ≡ false) → p n ≡ false → (k : ℕ) → k < suc n → p k ≡ false
    all before here k l = by_place (nat_eq k n) refl
      where
        by_place : (b : Bool) → nat_eq k n ≡ b → p k ≡ false
        by_place true e = let same : k ≡ n = grind (arith, nat_tests) in ap p same ∙ here
        by_place false e = before k (grind (arith, nat_tests))

    by_last : (b : Bool) → p n ≡ b → ((k : ℕ) → k < n → p k ≡ false) → Search p (suc n)
    by_last true e before = Search.at n (omega arith) e
    by_last false e before = Search.nowhere (all before e)

    by_rest : Search p n → Search p (suc n)
    by_rest (Search.at k l h) = Search.at k (omega arith) h
    by_rest (Search.nowhere before) = by_last (p n) refl before

-- going past a place
pub skip_place : (n k m : ℕ) → k < suc n → m < n → (skip k m < suc n) × (skip k m ≢ k)
skip_place n k m l lm = by_side (nat_lt m k) refl
  where
    by_side : (b : Bool) → nat_lt m k ≡ b → (skip k m < suc n) × (skip k m ≢ k)
    by_side true e =
        let low : m < k = grind (arith, nat_tests) in
        let is_low = skip_low k m low in
        (omega arith, λ same. absurd (omega arith))
    by_side false e =
        let high : k ≤ m = grind (arith, nat_tests) in
        let is_high = skip_high k m high in
        (omega arith, λ same. absurd (omega arith))

pub skip_apart : (k i j : ℕ) → skip k i ≡ skip k j → i ≡ j
skip_apart k i j e = by_sides (nat_lt i k) (nat_lt j k) refl refl
  where
    by_sides : (b c : Bool) → nat_lt i k ≡ b → nat_lt j k ≡ c → i ≡ j
    by_sides true true p q = sym (skip_low k i (grind (arith, nat_tests))) ∙ e ∙ skip_low k j (grind (arith, nat_tests))
    by_sides true false p q =
        let low : i < k = grind (arith, nat_tests) in
        let high : k ≤ j = grind (arith, nat_tests) in
        let is_low = skip_low k i low in
        let is_high = skip_high k j high in
        absurd (omega arith)
    by_sides false true p q =
        let high : k ≤ i = grind (arith, nat_tests) in
        let low : j < k = grind (arith, nat_tests) in
        let is_low = skip_low k j low in
        let is_high = skip_high k i high in
        absurd (omega arith)
    by_sides false false p q =
        let high_i : k ≤ i = grind (arith, nat_tests) in
        let high_j : k ≤ j = grind (arith, nat_tests) in
        let is_i = skip_high k i high_i in
        let is_j = skip_high k j high_j in
        omega arith

module _ {X : Type 0} (is : List ℕ → X → Bool) (one : (x : X) (a b : List ℕ) → is a x ≡ true → is b x ≡ true → a ≡ b) where
  -- a text that differs from the one that this is, is not this
  other : (x : X) (a b : List ℕ) → is a x ≡ true → (a ≡ b → ⊥) → is b x ≡ false
  other x a b h ne = by_test (is b x) refl
    where
      by_test : (t : Bool) → is b x ≡ t → is b x ≡ false
      by_test false e = e
      by_test true e = absurd (ne (one x a b h e))

  later : (x : X) (xs : List X) (a : List ℕ) → list_any (is a) (x ∷ xs) ≡ true → is a x ≡ false → list_any (is a) xs ≡ true
  later x xs a any e = sym (ap (λ b. b || list_any (is a) xs) e) ∙ any

  -- texts that differ and are each one of these are no more than these
  pub no_more : (xs : List X) (f : ℕ → List ℕ) (n : ℕ) → ((i j : ℕ) → i < n → j < n → f i ≡ f j → i ≡ j)
      → ((m : ℕ) → m < n → list_any (is (f m)) xs ≡ true) → n ≤ length xs
  no_more [] f zero apart all = omega arith
  no_more [] f (suc n) apart all = absurd (none (all 0 (omega arith)))
    where
      none : false ≡ true → ⊥
      none e = cc
  no_more (x ∷ xs) f zero apart all = omega arith
  no_more (x ∷ xs) f (suc n) apart all = by_search (λ g m p q. no_more xs g m p q) (search_below (λ m. is (f m) x) (suc n))
    where
      by_search : ((g : ℕ → List ℕ) (m : ℕ) → ((i j : ℕ) → i < m → j < m → g i ≡ g j → i ≡ j) → ((i : ℕ) → i < m → list_any (is (g i)) xs ≡ true) → m ≤ length xs)
          → Search (λ m. is (f m) x) (suc n) → suc n ≤ suc (length xs)
      by_search others (Search.nowhere before) =
          let rest = others f (suc n) apart (λ m l. later x xs (f m) (all m l) (before m l)) in
          omega arith
      by_search others (Search.at k l h) =
          let rest = others (λ m. f (skip k m)) n
          (λ i j li lj e. skip_apart k i j (apart (skip k i) (skip k j) (skip_place n k i l li).0 (skip_place n k j l lj).0 e))
          (λ m lm.
          let p = skip_place n k m l lm in
          later x xs (f (skip k m)) (all (skip k m) p.0) (other x (f k) (f (skip k m)) h (λ e. p.1 (apart (skip k m) k p.0 l (sym e))))) in
          omega arith

-- numbers behind one name make texts that differ
module _ (wished : List ℕ) where
  longer : (xs ys : List ℕ) → xs ++ ys ≡ xs → ys ≡ []
  longer [] ys e = e
  longer (x ∷ xs) ys e = longer xs ys (cc)

  same_end : (xs ys zs : List ℕ) → xs ++ ys ≡ xs ++ zs → ys ≡ zs
  same_end [] ys zs e = e
  same_end (x ∷ xs) ys zs e = same_end xs ys zs (cc)

  no_digits : (n : ℕ) → n < 2 ^ 64 → decimal n ≡ [] → ⊥
  no_digits n l e = let some = decimal_nonempty n l in let none : length (decimal n) ≡ 0 = ap length e in absurd (omega arith)

  pub numbered_suc : (n : ℕ) → numbered wished (suc n) ≡ wished ++ decimal (suc n)
  numbered_suc n =
      let e : nat_eq (suc n) 0 ≡ false = grind (arith, nat_tests) in
      ap (λ b. if b then wished else wished ++ decimal (suc n)) e

  pub numbered_apart : (i j : ℕ) → i < 2 ^ 64 → j < 2 ^ 64 → numbered wished i ≡ numbered wished j → i ≡ j
  numbered_apart zero zero li lj e = refl
  numbered_apart zero (suc j) li lj e = absurd (no_digits (suc j) lj (longer wished (decimal (suc j)) (sym (e ∙ numbered_suc j))))
  numbered_apart (suc i) zero li lj e = absurd (no_digits (suc i) li (longer wished (decimal (suc i)) (sym (numbered_suc i) ∙ e)))
  numbered_apart (suc i) (suc j) li lj e =
      decimal_injective (suc i) (suc j) li lj (same_end wished (decimal (suc i)) (decimal (suc j)) (sym (numbered_suc i) ∙ (e ∙ numbered_suc j)))

-- a name in use: that of an entry, or of a local variable
pub data InUse : Type 0 where
  entry : ℕ → InUse
  local : Option (List ℕ) → InUse

abbrev is_in_use : Names → List ℕ → InUse → Bool
is_in_use names text (InUse.entry n) = is_text_of names text n
is_in_use names text (InUse.local printed) = is_printed_as text printed

all_in_use : List ℕ → List (Option (List ℕ)) → List InUse
all_in_use [] [] = []
all_in_use [] (l ∷ ls) = InUse.local l ∷ all_in_use [] ls
all_in_use (n ∷ ns) ls = InUse.entry n ∷ all_in_use ns ls

in_use-length : (ns : List ℕ) (ls : List (Option (List ℕ))) → length (all_in_use ns ls) ≡ length ns + length ls
unfolding all_in_use
in_use-length [] [] = refl
in_use-length [] (l ∷ ls) = let rest = in_use-length [] ls in omega arith
in_use-length (n ∷ ns) ls = let rest = in_use-length ns ls in omega arith

or_assoc : (a b c : Bool) → (a || (b || c)) ≡ ((a || b) || c)
or_assoc true b c = refl
or_assoc false b c = refl

in_use-any : (names : Names) (text : List ℕ) (ns : List ℕ) (ls : List (Option (List ℕ)))
    → list_any (is_in_use names text) (all_in_use ns ls) ≡ (list_any (is_text_of names text) ns || list_any (is_printed_as text) ls)
unfolding all_in_use
in_use-any names text [] [] = refl
in_use-any names text [] (l ∷ ls) = ap (λ b. is_printed_as text l || b) (in_use-any names text [] ls)
in_use-any names text (n ∷ ns) ls = ap (λ b. is_text_of names text n || b) (in_use-any names text ns ls) ∙ or_assoc (is_text_of names text n) (list_any (is_text_of names text) ns) (list_any (is_printed_as text) ls)

one_text : (o : Option (List ℕ)) (a b : List ℕ) → unwrap_or (option_map (same_text a) o) false ≡ true → unwrap_or (option_map (same_text b) o) false ≡ true → a ≡ b
one_text None a b h k = absurd (cc)
one_text (Some t) a b h k = same_text_equal a t h ∙ sym (same_text_equal b t k)

one_in_use : (names : Names) (x : InUse) (a b : List ℕ) → is_in_use names a x ≡ true → is_in_use names b x ≡ true → a ≡ b
one_in_use names (InUse.entry n) a b h k = one_text (slice_get names n) a b h k
one_in_use names (InUse.local printed) a b h k = one_text printed a b h k

not_false : (b : Bool) → not b ≡ false → b ≡ true
not_false true h = refl
not_false false h = absurd (cc)

-- with the number of the names in use behind it, a name is free where it is free with none of the numbers before
pub last_is_free : (scope : Scope) (wished : List ℕ) → names_in_use scope < 2 ^ 64
    → ((m : ℕ) → m < names_in_use scope → is_free scope (numbered wished m) ≡ false) → is_free scope (numbered wished (names_in_use scope)) ≡ true
last_is_free scope wished few before = by_test (is_free scope (numbered wished (names_in_use scope))) refl
  where
    all : is_free scope (numbered wished (names_in_use scope)) ≡ false → (m : ℕ) → m < suc (names_in_use scope) → is_free scope (numbered wished m) ≡ false
    all last m l = by_place (nat_eq m (names_in_use scope)) refl
      where
        by_place : (b : Bool) → nat_eq m (names_in_use scope) ≡ b → is_free scope (numbered wished m) ≡ false
        by_place true e = let same : m ≡ names_in_use scope = grind (arith, nat_tests) in ap (λ k. is_free scope (numbered wished k)) same ∙ last
        by_place false e = before m (grind (arith, nat_tests))

    by_test : (b : Bool) → is_free scope (numbered wished (names_in_use scope)) ≡ b → is_free scope (numbered wished (names_in_use scope)) ≡ true
    by_test true e = e
    by_test false e =
        let many = no_more (is_in_use scope.names) (one_in_use scope.names) (all_in_use scope.entries scope.locals) (numbered wished) (suc (names_in_use scope))
        (λ i j li lj same. numbered_apart wished i j (omega arith) (omega arith) same)
        (λ m l. in_use-any scope.names (numbered wished m) scope.entries scope.locals ∙ not_false _ (all e m l)) in
        let long = in_use-length scope.entries scope.locals in
        absurd (omega arith)
