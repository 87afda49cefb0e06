-- Lists of locals that are read from the outermost on.
use Rattle.std.proofs.Common.{◌≡◌, ℕ, zero, suc, ◌-◌, ◌≤◌, ◌<◌, List, [], ◌∷◌, ◌++◌, map, reverse, take, length, get_or, slice_get, Some, option_map, refl, sym, ap, ◌∙◌, subst, arith}
use Rattle.std.proofs.Math.Seq.{take-suc}
use Rattle.std.proofs.lemmas.List.{take_all, map-append, reverse-append, reverse-reverse, get_or-reverse, length-reverse}
use Rattle.std.proofs.lemmas.Option.{slice_get_within, get_or_from_slice_get, slice_get-get_or, slice_get-map}
use Rattle.lego_inference.proofs.LocalLemmas.{map-reverse}

-- one more from the front
pub take_next : {X : Type 0} (xs : List X) (at : ℕ) (x : X) → slice_get xs at ≡ Some x → take (suc at) xs ≡ take at xs ++ x ∷ []
take_next xs at x e =
    take-suc xs at x (slice_get_within xs at x e) ∙ ap (λ y. take at xs ++ y ∷ []) (get_or_from_slice_get xs at x x e)

-- a copy that grows at its front, from the outermost local on
pub copied_next : {X : Type 0} (xs copy : List X) (at next : ℕ) (x : X) → next ≡ suc at → reverse copy ≡ take at (reverse xs) → slice_get (reverse xs) at ≡ Some x → reverse (x ∷ copy) ≡ take next (reverse xs)
copied_next xs copy at next x is same e =
    reverse-append (x ∷ []) copy ∙ ap (λ ys. ys ++ x ∷ []) same ∙ sym (take_next (reverse xs) at x e) ∙ ap (λ n. take n (reverse xs)) (sym is)

pub copied_all : {X : Type 0} (xs copy : List X) (at : ℕ) → reverse copy ≡ take at (reverse xs) → length xs ≤ at → copy ≡ xs
copied_all xs copy at same all =
    let l = length-reverse xs in
    sym (reverse-reverse copy) ∙ ap reverse (same ∙ take_all at (reverse xs) (omega arith)) ∙ reverse-reverse xs

pub mapped_next : {X Y : Type 0} (f : X → Y) (xs : List X) (ys : List Y) (at next : ℕ) (x : X) → next ≡ suc at → ys ≡ map f (take at (reverse xs)) → slice_get (reverse xs) at ≡ Some x → ys ++ f x ∷ [] ≡ map f (take next (reverse xs))
mapped_next f xs ys at next x is same e =
    ap (λ z. z ++ f x ∷ []) same ∙ sym (map-append f (take at (reverse xs)) (x ∷ [])) ∙ ap (map f) (sym (take_next (reverse xs) at x e)) ∙ ap (λ n. map f (take n (reverse xs))) (sym is)

pub mapped_all : {X Y : Type 0} (f : X → Y) (xs : List X) (ys : List Y) (at : ℕ) → ys ≡ map f (take at (reverse xs)) → length xs ≤ at → ys ≡ reverse (map f xs)
mapped_all f xs ys at same all =
    let l = length-reverse xs in
    same ∙ ap (map f) (take_all at (reverse xs) (omega arith)) ∙ map-reverse f xs

pub taken_length : {X : Type 0} (xs copy : List X) (at : ℕ) → reverse copy ≡ take at (reverse xs) → at < length xs → length copy ≡ at
taken_length xs copy at same lt = sym (length-reverse copy) ∙ ap length same ∙ lengths (reverse xs) at (let l = length-reverse xs in omega arith)
  where
    lengths : {X : Type 0} (xs : List X) (n : ℕ) → n ≤ length xs → length (take n xs) ≡ n
    lengths xs zero le = refl
    lengths [] (suc n) le = absurd (omega arith)
    lengths (x ∷ xs) (suc n) le = ap suc (lengths xs n (omega arith))

-- a local by its index, read from the outermost
pub from_outermost : {X Y : Type 0} (f : X → Y) (xs : List X) (i : ℕ) (x : X) → i < length xs → slice_get (reverse xs) (length xs - 1 - i) ≡ Some x → slice_get (map f xs) i ≡ Some (f x)
from_outermost f xs i x lt e =
    let at : length xs - 1 - i < length xs = omega arith in
    let back : length xs - 1 - (length xs - 1 - i) ≡ i = omega arith in
    let here : get_or xs i x ≡ x =
    ap (λ n. get_or xs n x) (sym back) ∙ sym (get_or-reverse xs (length xs - 1 - i) x at) ∙ get_or_from_slice_get (reverse xs) (length xs - 1 - i) x x e in
    slice_get-map f xs i ∙ ap (option_map f) (slice_get-get_or xs i x lt ∙ ap Some here)

pub local_at : {X Y : Type 0} (f : X → Y) (xs : List X) (i n : ℕ) (x : X) → n ≡ length xs → i < length xs → slice_get (reverse xs) (n - 1 - i) ≡ Some x → slice_get (map f xs) i ≡ Some (f x)
local_at f xs i n x is lt e = from_outermost f xs i x lt (subst (λ z. slice_get (reverse xs) (z - 1 - i) ≡ Some x) is e)
