-- Constants that are entries of a context.
use Rattle.std.proofs.Common.{◌≡◌, ℕ, suc, Bool, true, false, nat_eq, List, [], ◌∷◌, Option, Some, None, option_map, IsTrue, is_some, IsSome, refl, ◌∙◌, subst, arith}
use Rattle.std.specs.Bool.{OnTrue}
use Rattle.std.proofs.lemmas.Bool.Decides.{nat_tests}
use Rattle.lego_laws.specs.Entries.{entry_of}
use Rattle.lego_inference.specs.declared.entry.Entry.{Entry as Item}
use Rattle.lego_inference.specs.Entries.{laws_entries, numbers_of}
use Rattle.lego_context.specs.Entries.{place_of_number}
use Rattle.lego_context.proofs.NameLemmas.{position-cons}

found_is_entry : (k : ℕ) (es : List Item) → is_some (place_of_number es k) ≡ is_some (entry_of (laws_entries es) k)
found_is_entry k [] = refl
found_is_entry k (e ∷ es) = by_test (nat_eq k e.number) refl (found_is_entry k es)
  where
    kept : (o : Option ℕ) → is_some (option_map suc o) ≡ is_some o
    kept None = refl
    kept (Some at) = refl

    by_test : (b : Bool) → nat_eq k e.number ≡ b → is_some (place_of_number es k) ≡ is_some (entry_of (laws_entries es) k)
        → is_some (place_of_number (e ∷ es) k) ≡ is_some (entry_of (laws_entries (e ∷ es)) k)
    by_test true t rest =
        let here : nat_eq e.number k ≡ true = grind (arith, nat_tests) in
        let place : place_of_number (e ∷ es) k ≡ Some 0 = position-cons (nat_eq k) e.number (numbers_of es) ∙ rw t refl in
        rw (here, place) refl
    by_test false t rest =
        let other : nat_eq e.number k ≡ false = grind (arith, nat_tests) in
        let place : place_of_number (e ∷ es) k ≡ option_map suc (place_of_number es k) = position-cons (nat_eq k) e.number (numbers_of es) ∙ rw t refl in
        rw (other, place) (kept (place_of_number es k) ∙ rest)

-- a number that is found is that of an entry
pub found_entry : (k : ℕ) (es : List Item) (found : Bool) → found ≡ is_some (place_of_number es k) → OnTrue found (IsSome (entry_of (laws_entries es) k))
found_entry k es true is = subst IsTrue (is ∙ found_is_entry k es) refl
found_entry k es false is = tt
