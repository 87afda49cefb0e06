-- Numbers that entries have.
use Rattle.std.proofs.Common.{◌≡◌, ℕ, zero, suc, ◌+◌, ◌<◌, ◌≤◌, nat_eq, nat_lt, if◌then◌else◌, Bool, true, false, List, [], ◌∷◌, ◌++◌, length, position, Option, Some, None, option_map, Contains, refl, sym, ap, ◌∙◌, subst, arith}
use Rattle.std.specs.List.{list_any}
use Rattle.std.proofs.lemmas.List.{map-append}
use Rattle.std.proofs.lemmas.List.Elements.{Contains-append_left}
use Rattle.std.proofs.lemmas.Bool.{false≢true, ltb-true, ltb-false}
use Rattle.std.proofs.lemmas.Bool.Decides.{nat_tests}
use Rattle.lego_inference.specs.declared.entry.Entry.{Entry as Item}
use Rattle.lego_inference.specs.Entries.{numbers_of}
use Rattle.lego_context.specs.Entries.{IsLeastFree}
use Rattle.lego_context.proofs.NameLemmas.{position-cons, none_behind, some_not_none}

-- a list without the first place of a number
abbrev without : ℕ → List ℕ → List ℕ
without n [] = []
without n (x ∷ xs) = if nat_eq n x then xs else x ∷ without n xs

length-without : (n : ℕ) (xs : List ℕ) → list_any (nat_eq n) xs ≡ true → length xs ≡ suc (length (without n xs))
length-without n [] h = cc
length-without n (x ∷ xs) h = by_test (nat_eq n x) refl (λ l. length-without n xs l)
  where
    by_test : (b : Bool) → nat_eq n x ≡ b → (list_any (nat_eq n) xs ≡ true → length xs ≡ suc (length (without n xs))) → length (x ∷ xs) ≡ suc (length (without n (x ∷ xs)))
    by_test true t rest = rw t refl
    by_test false t rest = let there : list_any (nat_eq n) xs ≡ true = rw t at h in rw t (ap suc (rest there))

still_listed : (n k : ℕ) (xs : List ℕ) → nat_eq n k ≡ false → list_any (nat_eq k) xs ≡ true → list_any (nat_eq k) (without n xs) ≡ true
still_listed n k [] apart h = cc
still_listed n k (x ∷ xs) apart h = by_tests (nat_eq n x) refl (nat_eq k x) refl (λ l. still_listed n k xs apart l)
  where
    by_tests : (b : Bool) → nat_eq n x ≡ b → (c : Bool) → nat_eq k x ≡ c → (list_any (nat_eq k) xs ≡ true → list_any (nat_eq k) (without n xs) ≡ true) → list_any (nat_eq k) (without n (x ∷ xs)) ≡ true
    by_tests true s true t rest = let same : n ≡ x = grind (arith, nat_tests) in let other : k ≡ x = grind (arith, nat_tests) in absurd (grind (arith, nat_tests))
    by_tests true s false t rest = let there : list_any (nat_eq k) xs ≡ true = rw t at h in rw s there
    by_tests false s true t rest = rw (s, t) refl
    by_tests false s false t rest = let there : list_any (nat_eq k) xs ≡ true = rw t at h in rw (s, t) (rest there)

apart : (n k : ℕ) → k < n → nat_eq n k ≡ false
apart n k below = grind (arith, nat_tests)

-- a list that has each number below n has as many items
as_many : (n : ℕ) (xs : List ℕ) → ((k : ℕ) → k < n → list_any (nat_eq k) xs ≡ true) → n ≤ length xs
as_many zero xs h = omega arith
as_many (suc n) xs h =
    let l = length-without n xs (h n (omega arith)) in
    let r = as_many n (without n xs) (λ k below. still_listed n k xs (apart n k below) (h k (omega arith))) in
    omega arith

listed : (xs : List ℕ) (n : ℕ) → Contains xs n → list_any (nat_eq n) xs ≡ true
listed [] n c = absurd (omega (arith, c.1))
listed (x ∷ xs) n c = by_test (nat_eq n x) refl (λ d. listed xs n d) c
  where
    by_test : (b : Bool) → nat_eq n x ≡ b → (Contains xs n → list_any (nat_eq n) xs ≡ true) → Contains (x ∷ xs) n → list_any (nat_eq n) (x ∷ xs) ≡ true
    by_test true t rest c = rw t refl
    by_test false t rest (zero, l, same) = absurd (grind (arith, nat_tests))
    by_test false t rest (suc i, l, same) = rw t (rest (i, omega arith, same))

length-numbers : (es : List Item) → length (numbers_of es) ≡ length es
length-numbers [] = refl
length-numbers (e ∷ es) = ap suc (length-numbers es)

-- entries that have each number below n are as many
pub enough : (es : List Item) (n : ℕ) → ((k : ℕ) → k < n → Contains (numbers_of es) k) → n ≤ length es
enough es n h = let l = as_many n (numbers_of es) (λ k below. listed (numbers_of es) k (h k below)) in omega (arith, length-numbers es)

-- a number without a place is free, and one with a place is taken
pub free_number : (xs : List ℕ) (n : ℕ) → position (nat_eq n) xs ≡ None → Contains xs n → ⊥
free_number [] n h c = absurd (omega (arith, c.1))
free_number (x ∷ xs) n h c = by_test (nat_eq n x) refl (λ e. free_number xs n e) c
  where
    behind : (if nat_eq n x then Some 0 else option_map suc (position (nat_eq n) xs)) ≡ None
    behind = sym (position-cons (nat_eq n) x xs) ∙ h

    by_test : (b : Bool) → nat_eq n x ≡ b → (position (nat_eq n) xs ≡ None → Contains xs n → ⊥) → Contains (x ∷ xs) n → ⊥
    by_test true t rest c = let found : Some 0 ≡ None = rw t at behind in some_not_none 0 found
    by_test false t rest (zero, l, same) = let told : nat_eq n x ≡ true = grind (arith, nat_tests) in false≢true (sym t ∙ told)
    by_test false t rest (suc i, l, same) =
        let none : option_map suc (position (nat_eq n) xs) ≡ None = rw t at behind in
        rest (none_behind (position (nat_eq n) xs) none) (i, omega arith, same)

pub taken_number : (xs : List ℕ) (n i : ℕ) → position (nat_eq n) xs ≡ Some i → Contains xs n
taken_number [] n i h = cc
taken_number (x ∷ xs) n i h = by_test (nat_eq n x) refl (λ j is. taken_number xs n j is)
  where
    found : (if nat_eq n x then Some 0 else option_map suc (position (nat_eq n) xs)) ≡ Some i
    found = sym (position-cons (nat_eq n) x xs) ∙ h

    further : (o : Option ℕ) → position (nat_eq n) xs ≡ o → ((j : ℕ) → position (nat_eq n) xs ≡ Some j → Contains xs n) → option_map suc o ≡ Some i → Contains (x ∷ xs) n
    further None is rest e = cc
    further (Some j) is rest e = let c = rest j is in (suc c.0, omega (arith, c.1), c.2)

    by_test : (b : Bool) → nat_eq n x ≡ b → ((j : ℕ) → position (nat_eq n) xs ≡ Some j → Contains xs n) → Contains (x ∷ xs) n
    by_test true t rest = let same : x ≡ n = grind (arith, nat_tests) in (0, omega arith, same)
    by_test false t rest = further (position (nat_eq n) xs) refl rest (rw t at found)

-- the numbers below one more
pub next_taken : (xs : List ℕ) (n : ℕ) → ((k : ℕ) → k < n → Contains xs k) → Contains xs n → (k : ℕ) → k < n + 1 → Contains xs k
next_taken xs n h here k below = by_test (nat_lt k n) refl
  where
    by_test : (b : Bool) → nat_lt k n ≡ b → Contains xs k
    by_test true t = h k (ltb-true k n t)
    by_test false t = let le = ltb-false k n t in let same : n ≡ k = omega arith in subst (λ j. Contains xs j) same here

pub numbers-push : (es : List Item) (e : Item) → numbers_of (es ++ e ∷ []) ≡ numbers_of es ++ e.number ∷ []
numbers-push es e = map-append (λ (x : Item). x.number) es (e ∷ [])

-- the numbers below the least free one are those of older entries
pub taken-push : (es all : List Item) (e : Item) (n : ℕ) → IsLeastFree es n → all ≡ es ++ e ∷ [] → (k : ℕ) → k < n → Contains (numbers_of all) k
taken-push es all e n free whole k below =
    subst (λ (z : List Item). Contains (numbers_of z) k) (sym whole)
    (subst (λ ns. Contains ns k) (sym (numbers-push es e)) (Contains-append_left (numbers_of es) (e.number ∷ []) k (free.least k below)))
