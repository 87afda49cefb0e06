-- Entries by their names.
use Rattle.std.proofs.Common.{◌≡◌, ℕ, zero, suc, ◌+◌, Bool, true, false, nat_lt, if◌then◌else◌, List, [], ◌∷◌, length, position, slice_get, Option, Some, None, option_map, refl, sym, ap, ◌∙◌, arith}
use Rattle.std.specs.List.{position_or_len}
use Rattle.std.proofs.lemmas.Bool.Decides.{nat_tests}
use Rattle.lego_laws.specs.Entries.{Entry}
use Rattle.lego_grammar.specs.Scopes.{entry_named}
use Rattle.lego_inference.specs.declared.entry.Entry.{Entry as Item}
use Rattle.lego_inference.specs.Entries.{laws_entry, laws_entries}
use Rattle.lego_context.specs.Entries.{position_of}
use Rattle.lego_context.specs.Entries as context

first_place : (n : ℕ) → nat_lt 0 (suc n) ≡ true
first_place n = grind (arith, nat_tests)

next_place : (b : Bool) (n m : ℕ) → nat_lt n m ≡ b → nat_lt (1 + n) (suc m) ≡ b
next_place true n m e = grind (arith, nat_tests)
next_place false n m e = grind (arith, nat_tests)

one_further : (b : Bool) (n : ℕ) → (if b then Some (1 + n) else None) ≡ option_map suc (if b then Some n else None)
one_further true n = let s : 1 + n ≡ suc n = omega arith in ap (λ k. Some k) s
one_further false n = refl

pub position-cons : {X : Type 0} (p : X → Bool) (x : X) (xs : List X) → position p (x ∷ xs) ≡ (if p x then Some 0 else option_map suc (position p xs))
position-cons p x xs = by_test (p x) refl
  where
    by_test : (b : Bool) → p x ≡ b → position p (x ∷ xs) ≡ (if p x then Some 0 else option_map suc (position p xs))
    by_test true e = let l = first_place (length xs) in rw (e, l) refl
    by_test false e =
        let l = next_place (nat_lt (position_or_len p xs) (length xs)) (position_or_len p xs) (length xs) refl in
        let r = one_further (nat_lt (position_or_len p xs) (length xs)) (position_or_len p xs) in
        rw (e, l) r

some_is : {X : Type 0} {t u : X} → Some t ≡ Some u → t ≡ u
some_is e = cc

before : (o : Option ℕ) (i : ℕ) → option_map suc o ≡ Some (suc i) → o ≡ Some i
before None i e = cc
before (Some j) i e = let same : suc j ≡ suc i = cc in let one : j ≡ i = omega arith in ap Some one

not_zero : (o : Option ℕ) → option_map suc o ≡ Some zero → ⊥
not_zero None e = cc
not_zero (Some j) e = let same : suc j ≡ zero = cc in omega (arith, same)

none_before : (o : Option ℕ) → option_map suc o ≡ None → o ≡ None
none_before None e = refl
none_before (Some j) e = cc

pub entry_at : (es : List Item) (n i : ℕ) (e : Item) → position_of es n ≡ Some i → slice_get es i ≡ Some e → entry_named (laws_entries es) n ≡ Some (laws_entry e)
entry_at [] n i e p at = cc
entry_at (x ∷ es) n i e p at =
    let q : (if context.is_named n x then Some 0 else option_map suc (position_of es n)) ≡ Some i = sym (position-cons (context.is_named n) x es) ∙ p in
    elim (context.is_named n x) as (λ b. (if b then Some 0 else option_map suc (position_of es n)) ≡ Some i → slice_get (x ∷ es) i ≡ Some e
    → (if b then Some (laws_entry x) else entry_named (laws_entries es) n) ≡ Some (laws_entry e)) [
      | true ↦ λ h a. here i h a
      | false ↦ λ h a. later i (λ j z y. entry_at es n j e z y) h a
    ] q at
  where
    here : (i : ℕ) → ◌≡◌ {A = Option ℕ} (Some 0) (Some i) → slice_get (x ∷ es) i ≡ Some e → ◌≡◌ {A = Option Entry} (Some (laws_entry x)) (Some (laws_entry e))
    here zero h a = let same : x ≡ e = cc in ap (λ (z : Item). Some (laws_entry z)) same
    here (suc i) h a = let wrong : 0 ≡ suc i = cc in absurd (omega (arith, wrong))

    later : (i : ℕ) → ((j : ℕ) → position_of es n ≡ Some j → slice_get es j ≡ Some e → entry_named (laws_entries es) n ≡ Some (laws_entry e))
        → option_map suc (position_of es n) ≡ Some i → slice_get (x ∷ es) i ≡ Some e → entry_named (laws_entries es) n ≡ Some (laws_entry e)
    later zero go h a = absurd (not_zero (position_of es n) h)
    later (suc i) go h a = go i (before (position_of es n) i h) a

pub no_entry : (es : List Item) (n : ℕ) → position_of es n ≡ None → entry_named (laws_entries es) n ≡ None
no_entry [] n p = refl
no_entry (x ∷ es) n p =
    let q : (if context.is_named n x then Some 0 else option_map suc (position_of es n)) ≡ None = sym (position-cons (context.is_named n) x es) ∙ p in
    elim (context.is_named n x) as (λ b. (if b then Some 0 else option_map suc (position_of es n)) ≡ None
    → (if b then Some (laws_entry x) else entry_named (laws_entries es) n) ≡ None) [
      | true ↦ λ h. cc
      | false ↦ λ h. no_entry es n (none_before (position_of es n) h)
    ] q

-- where a name is found, there is an entry
pub is_there : (es : List Item) (n i : ℕ) → position_of es n ≡ Some i → slice_get es i ≡ None → ⊥
is_there [] n i p none = cc
is_there (x ∷ es) n i p none =
    let q : (if context.is_named n x then Some 0 else option_map suc (position_of es n)) ≡ Some i = sym (position-cons (context.is_named n) x es) ∙ p in
    elim (context.is_named n x) as (λ b. (if b then Some 0 else option_map suc (position_of es n)) ≡ Some i → ⊥) [
      | true ↦ λ h. here i h none
      | false ↦ λ h. later i (λ j z y. is_there es n j z y) h none
    ] q
  where
    here : (i : ℕ) → ◌≡◌ {A = Option ℕ} (Some 0) (Some i) → slice_get (x ∷ es) i ≡ None → ⊥
    here zero h a = cc
    here (suc i) h a = let wrong : 0 ≡ suc i = cc in omega (arith, wrong)

    later : (i : ℕ) → ((j : ℕ) → position_of es n ≡ Some j → slice_get es j ≡ None → ⊥) → option_map suc (position_of es n) ≡ Some i → slice_get (x ∷ es) i ≡ None → ⊥
    later zero go h a = not_zero (position_of es n) h
    later (suc i) go h a = go i (before (position_of es n) i h) a
