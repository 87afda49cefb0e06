-- Signatures without their last entry.
use Rattle.std.proofs.Common.{◌≡◌, ℕ, zero, suc, ◌+◌, ◌<◌, nat_eq, if◌then◌else◌, cond, Bool, true, false, List, [], ◌∷◌, ◌++◌, map, take, length, Option, Some, None, option_map, option_and_then, Contains, refl, sym, ap, ◌∙◌, subst, arith}
use Rattle.std.specs.List.{AllByRecursion, IsDistinct}
use Rattle.std.proofs.lemmas.List.{map-append}
use Rattle.std.proofs.lemmas.Bool.Decides.{nat_tests}
use Rattle.std.proofs.Math.Path.{fun_ext}
use Rattle.std.specs.FinMap.{get-remove, remove}
use Rattle.std.specs.Cmp.{nat_cmp_total}
use Rattle.lego_term.specs.BodyMap.{BodyMap, bodies_in}
use Rattle.lego_term.specs.Trees.{Core, loose}
use Rattle.lego_term.specs.Sequences.{or_else}
use Rattle.lego_laws.specs.Entries.{Entry, entry_of, core_bodies}
use Rattle.lego_inference.specs.declared.entry.Entry.{Entry as Item}
use Rattle.lego_inference.specs.Entries.{laws_entry, laws_entries, numbers_of, AreClosedEntries}
use Rattle.lego_inference.proofs.SignatureLemmas.{entry_last, same_test, no_other, bodies_now}

all_but_last : {X : Type 0} (xs : List X) (y : X) (n : ℕ) → n ≡ length xs → take n (xs ++ y ∷ []) ≡ xs
all_but_last [] y n is = rw is refl
all_but_last (x ∷ xs) y n is = rw is (ap (λ zs. x ∷ zs) (all_but_last xs y (length xs) refl))

length-push : {X : Type 0} (xs : List X) (y : X) → length (xs ++ y ∷ []) ≡ suc (length xs)
length-push [] y = refl
length-push (x ∷ xs) y = ap suc (length-push xs y)

of_last : (P : ℕ → Type 0) (xs : List ℕ) (y : ℕ) → AllByRecursion P (xs ++ y ∷ []) → P y
of_last P [] y h = h.0
of_last P (x ∷ xs) y h = of_last P xs y h.1

last_is_new : (xs : List ℕ) (y : ℕ) → IsDistinct nat_eq (xs ++ y ∷ []) → Contains xs y → ⊥
unfolding IsDistinct
last_is_new [] y d c = absurd (omega (arith, c.1))
last_is_new (x ∷ xs) y d (zero, l, same) = let apart : nat_eq x y ≡ false = of_last (λ z. nat_eq x z ≡ false) xs y d.0 in grind (arith, nat_tests)
last_is_new (x ∷ xs) y d (suc i, l, same) = last_is_new xs y d.1 (i, omega arith, same)

module _ (es : List Item) (e : Item) where
  -- what holds of each entry holds of those before the last
  earlier_entries : (P : Option Entry → Type 0) → ((k : ℕ) → P (entry_of (laws_entries (es ++ e ∷ [])) k)) → P None → (k : ℕ) → P (entry_of (laws_entries es) k)
  earlier_entries P all none k = by_entry (entry_of (laws_entries es) k) (subst P (entry_last es e k) (all k))
    where
      by_entry : (o : Option Entry) → P (or_else o (if nat_eq e.number k then Some (laws_entry e) else None)) → P o
      by_entry (Some y) h = h
      by_entry None h = none

  closed_pop : AreClosedEntries (laws_entries (es ++ e ∷ [])) → AreClosedEntries (laws_entries es)
  closed_pop h = record {
    types = earlier_entries (λ o. (t : Core) → option_map (λ (y : Entry). y.ty) o ≡ Some t → loose t ≡ 0) h.types (λ t i. absurd (cc));
    bodies = earlier_entries (λ o. (t : Core) → option_and_then (λ (y : Entry). y.body) o ≡ Some t → loose t ≡ 0) h.bodies (λ t i. absurd (cc));
  }

  numbers_split : numbers_of (es ++ e ∷ []) ≡ numbers_of es ++ e.number ∷ []
  numbers_split = map-append (λ (y : Item). y.number) es (e ∷ [])

  length-numbers : (xs : List Item) → length (numbers_of xs) ≡ length xs
  length-numbers [] = refl
  length-numbers (x ∷ xs) = ap suc (length-numbers xs)

  numbers_pop : (keys keys' : List ℕ) (n : ℕ) → keys ≡ numbers_of (es ++ e ∷ []) → n + 1 ≡ length keys → keys' ≡ take n keys → keys' ≡ numbers_of es
  numbers_pop keys keys' n is last cut =
      let whole : keys ≡ numbers_of es ++ e.number ∷ [] = is ∙ numbers_split in
      let long : length keys ≡ suc (length (numbers_of es)) = ap (λ ks. length ks) whole ∙ length-push (numbers_of es) e.number in
      cut ∙ ap (take n) whole ∙ all_but_last (numbers_of es) e.number n (omega arith)

  module _ (new : Contains (numbers_of es) e.number → ⊥) where
    bodies_pop : (bodies : BodyMap) → bodies_in bodies ≡ core_bodies (laws_entries (es ++ e ∷ [])) → bodies_in (remove bodies e.number) ≡ core_bodies (laws_entries es)
    bodies_pop bodies are = fun_ext at_number
      where
        by_test : (k : ℕ) (b : Bool) → nat_eq e.number k ≡ b → cond b None (bodies_in bodies k) ≡ core_bodies (laws_entries es) k
        by_test k true t = sym (ap (option_and_then (λ (y : Entry). y.body)) (no_other es e new k t))
        by_test k false t = ap (λ (f : ℕ → Option Core). f k) are ∙ bodies_now es e new k ∙ rw t refl

        at_number : (k : ℕ) → bodies_in (remove bodies e.number) k ≡ core_bodies (laws_entries es) k
        at_number k = get-remove nat_cmp_total bodies e.number k ∙ ap (λ b. cond b None (bodies_in bodies k)) (same_test k e.number) ∙ by_test k (nat_eq e.number k) refl

  -- the last number is that of no other entry
  pub new_number : (all : List Item) (keys : List ℕ) → all ≡ es ++ e ∷ [] → keys ≡ numbers_of all → IsDistinct nat_eq keys → Contains (numbers_of es) e.number → ⊥
  new_number all keys whole is apart =
      last_is_new (numbers_of es) e.number (subst (IsDistinct nat_eq) (is ∙ ap numbers_of whole ∙ numbers_split) apart)

  -- the signature with one entry less
  pub pop_signature : (all : List Item) (keys keys' : List ℕ) (bodies bodies' : BodyMap) (n : ℕ) → all ≡ es ++ e ∷ []
      → AreClosedEntries (laws_entries all) × (keys ≡ numbers_of all) × (bodies_in bodies ≡ core_bodies (laws_entries all))
      → IsDistinct nat_eq keys → n + 1 ≡ length keys → keys' ≡ take n keys → bodies' ≡ remove bodies e.number
      → AreClosedEntries (laws_entries es) × (keys' ≡ numbers_of es) × (bodies_in bodies' ≡ core_bodies (laws_entries es))
  pop_signature all keys keys' bodies bodies' n whole old apart last cut taken =
      let held = subst (λ (z : List Item). AreClosedEntries (laws_entries z) × (keys ≡ numbers_of z) × (bodies_in bodies ≡ core_bodies (laws_entries z))) whole old in
      let new : Contains (numbers_of es) e.number → ⊥ = new_number all keys whole old.1 apart in
      (closed_pop held.0, numbers_pop keys keys' n held.1 last cut, ap (λ (z : BodyMap). bodies_in z) taken ∙ bodies_pop new bodies held.2)

-- some number is kept where there is some entry
pub numbers_some : (all es : List Item) (e : Item) (keys : List ℕ) → all ≡ es ++ e ∷ [] → keys ≡ numbers_of all → 0 < length keys
numbers_some all es e keys whole is =
    let long : length keys ≡ suc (length (numbers_of es)) = ap (λ ks. length ks) (is ∙ ap numbers_of whole ∙ numbers_split es e) ∙ length-push (numbers_of es) e.number in
    omega (arith, long)
