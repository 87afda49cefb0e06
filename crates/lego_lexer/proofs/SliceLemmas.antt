-- Ranges of bytes.
use Rattle.std.proofs.Common.{◌≡◌, ℕ, ◌+◌, ◌-◌, ◌<◌, ◌≤◌, suc, List, [], ◌∷◌, ◌++◌, length, get_or, take, drop, refl, sym, ap, ◌∙◌, arith, add-one, append_assoc, drop-cons, length-drop, length-take}
use Rattle.std.specs.Prelude.{slice_range}
use Rattle.std.proofs.lemmas.List.{drop-drop, take_all}
use Rattle.std.proofs.Math.Seq.{take-add}

pub slice_none : (xs : List ℕ) (i : ℕ) → slice_range xs i i ≡ []
slice_none xs i = let none : i - i ≡ 0 = omega arith in rw none refl

pub slice_all : (xs : List ℕ) (i : ℕ) → slice_range xs i (length xs) ≡ drop i xs
slice_all xs i = take_all (length xs - i) (drop i xs) (omega (arith, length-drop i xs))

pub slice_cons : (xs : List ℕ) (i j : ℕ) → i < j → i < length xs → slice_range xs i j ≡ get_or xs i 0 ∷ slice_range xs (i + 1) j
slice_cons xs i j h within =
    let more : j - i ≡ suc (j - (i + 1)) = omega arith in
    let one : i + 1 ≡ suc i = add-one i in
    rw (more, drop-cons xs i 0) (ap (λ k. get_or xs i 0 ∷ take (j - (i + 1)) (drop k xs)) (sym one))

pub slice_join : (xs : List ℕ) (i j k : ℕ) → i ≤ j → j ≤ k → slice_range xs i k ≡ slice_range xs i j ++ slice_range xs j k
slice_join xs i j k h m =
    let parts : k - i ≡ (j - i) + (k - j) = omega arith in
    let there : i + (j - i) ≡ j = omega arith in
    ap (λ n. take n (drop i xs)) parts ∙ (take-add (j - i) (k - j) (drop i xs)
    ∙ ap (λ ys. take (j - i) (drop i xs) ++ take (k - j) ys) (drop-drop (j - i) i xs ∙ ap (λ n. drop n xs) there))

pub slice_length : (xs : List ℕ) (i j : ℕ) → i ≤ j → j ≤ length xs → i + length (slice_range xs i j) ≡ j
slice_length xs i j h m = omega (arith, length-take (j - i) (drop i xs), length-drop i xs)

-- one more byte of a front
pub take_next : (xs : List ℕ) (i : ℕ) → i < length xs → take (i + 1) xs ≡ take i xs ++ get_or xs i 0 ∷ []
take_next xs i h = take-add i 1 xs ∙ ap (λ ys. take i xs ++ take 1 ys) (drop-cons xs i 0 h)

pub front_next : (bytes xs : List ℕ) (i : ℕ) → i < length xs → (bytes ++ take i xs) ++ get_or xs i 0 ∷ [] ≡ bytes ++ take (i + 1) xs
front_next bytes xs i h = append_assoc bytes (take i xs) (get_or xs i 0 ∷ []) ∙ ap (λ ys. bytes ++ ys) (sym (take_next xs i h))
