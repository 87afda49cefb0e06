-- Members of lists.
use Rattle.std.proofs.Common.{◌≡◌, suc, zero, ◌⊎◌, List, [], ◌∷◌, Contains, reverse, refl, sym, inl, inr, arith}
use Rattle.std.specs.List.Sorted.{IsPermutation}
use Rattle.std.proofs.lemmas.List.Sorted.{Contains-permutation, IsPermutation-sym, IsPermutation-reverse}

module _ {X : Type 0} where
  pub contains_head : (x : X) (xs : List X) → Contains (x ∷ xs) x
  contains_head x xs = (0, omega arith, refl)

  pub contains_tail : (x : X) (xs : List X) (y : X) → Contains xs y → Contains (x ∷ xs) y
  contains_tail x xs y (k, h, e) = (suc k, omega arith, e)

  pub contains_cases : (x : X) (xs : List X) (y : X) → Contains (x ∷ xs) y → (y ≡ x) ⊎ Contains xs y
  contains_cases x xs y (zero, h, e) = inl (sym e)
  contains_cases x xs y (suc k, h, e) = inr (k, omega arith, e)

  pub contains_none : (y : X) → Contains [] y → ⊥
  contains_none y (k, h, e) = absurd (omega arith)

  pub pushed_only : (x : X) (xs ys : List X) → IsPermutation (x ∷ xs) ys → (y : X) → Contains ys y → (y ≡ x) ⊎ Contains xs y
  pushed_only x xs ys p y h = contains_cases x xs y (Contains-permutation ys (x ∷ xs) y (IsPermutation-sym (x ∷ xs) ys p) h)

  pub pushed_keeps : (x : X) (xs ys : List X) → IsPermutation (x ∷ xs) ys → (y : X) → Contains xs y → Contains ys y
  pushed_keeps x xs ys p y h = Contains-permutation (x ∷ xs) ys y p (contains_tail x xs y h)

  pub pushed_there : (x : X) (xs ys : List X) → IsPermutation (x ∷ xs) ys → Contains ys x
  pushed_there x xs ys p = Contains-permutation (x ∷ xs) ys x p (contains_head x xs)

  pub contains-reverse : (xs : List X) (x : X) → Contains xs x → Contains (reverse xs) x
  contains-reverse xs x h = Contains-permutation xs (reverse xs) x (IsPermutation-reverse xs) h

  pub reverse-contains : (xs : List X) (x : X) → Contains (reverse xs) x → Contains xs x
  reverse-contains xs x h = Contains-permutation (reverse xs) xs x (IsPermutation-sym xs (reverse xs) (IsPermutation-reverse xs)) h
