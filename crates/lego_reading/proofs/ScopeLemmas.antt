-- The local variables in scope, as the code keeps them.
use Rattle.std.proofs.Common.{◌≡◌, ℕ, zero, suc, ◌-◌, ◌<◌, ◌≤◌, Bool, true, false, if◌then◌else◌, List, [], ◌∷◌, ◌++◌, length, map, reverse, take, drop, get_or, slice_get, Option, Some, None, option_map, refl, sym, ap, ◌∙◌, arith}
use Rattle.std.specs.Option.{option_eq}
use Rattle.std.proofs.Math.Dec.{eqb}
use Rattle.std.proofs.lemmas.Bool.Decides.{nat_tests}
use Rattle.std.proofs.lemmas.List.{map-append, reverse-append, reverse-reverse, length-reverse, length-drop, take-append-drop, drop-map, get_or-reverse}
use Rattle.std.proofs.lemmas.Option.{slice_get-map, slice_get-get_or}
use Rattle.std.proofs.Math.Seq.{drop-append_seam}
use Rattle.lego_grammar.specs.Scopes.{LocalVariable, Scope, is_named, local_name, local_named}

-- a name as the code compares it
pub compared : (o : Option ℕ) (n : ℕ) (b : Bool) → option_eq eqb o (Some n) ≡ b → is_named n o ≡ b
compared None n b e = e
compared (Some m) n b e = turned m n ∙ e
  where
    turned : (m n : ℕ) → eqb n m ≡ eqb m n
    turned m n = grind (arith, nat_tests)

-- no variable of the first ones has the name
pub none_more : (scope : Scope) (n i : ℕ) (x : LocalVariable) → slice_get scope i ≡ Some x → is_named n (local_name x) ≡ false
    → local_named (take i scope) n ≡ None → local_named (take (suc i) scope) n ≡ None
none_more [] n i x at other none = refl
none_more (y ∷ scope) n zero x at other none =
    let same : y ≡ x = cc in
    let here : is_named n (local_name y) ≡ false = ap (λ (z : LocalVariable). is_named n (local_name z)) same ∙ other in
    rw here refl
none_more (y ∷ scope) n (suc i) x at other none =
    elim (is_named n (local_name y)) as (λ b. (if b then Some 0 else option_map suc (local_named (take i scope) n)) ≡ None
    → (if b then Some 0 else option_map suc (local_named (take (suc i) scope) n)) ≡ None) [
      | true ↦ λ h. h
      | false ↦ λ h. ap (option_map suc) (none_more scope n i x at other (unmapped (local_named (take i scope) n) h))
    ] none
  where
    unmapped : (o : Option ℕ) → option_map suc o ≡ None → o ≡ None
    unmapped None e = refl
    unmapped (Some j) e = cc

pub first_named : (scope : Scope) (n i : ℕ) (x : LocalVariable) → slice_get scope i ≡ Some x → is_named n (local_name x) ≡ true
    → local_named (take i scope) n ≡ None → local_named scope n ≡ Some i
first_named [] n i x at is none = cc
first_named (y ∷ scope) n zero x at is none =
    let same : y ≡ x = cc in
    let here : is_named n (local_name y) ≡ true = ap (λ (z : LocalVariable). is_named n (local_name z)) same ∙ is in
    rw here refl
first_named (y ∷ scope) n (suc i) x at is none =
    elim (is_named n (local_name y)) as (λ b. (if b then Some 0 else option_map suc (local_named (take i scope) n)) ≡ None
    → (if b then Some 0 else option_map suc (local_named scope n)) ≡ Some (suc i)) [
      | true ↦ λ h. cc
      | false ↦ λ h. ap (option_map suc) (first_named scope n i x at is (unmapped (local_named (take i scope) n) h))
    ] none
  where
    unmapped : (o : Option ℕ) → option_map suc o ≡ None → o ≡ None
    unmapped None e = refl
    unmapped (Some j) e = cc

later_within : (o : Option ℕ) (length i : ℕ) → ((j : ℕ) → o ≡ Some j → suc j ≤ length) → option_map suc o ≡ Some i → suc i ≤ suc length
later_within None length i h e = cc
later_within (Some j) length i h e = let le = h j refl in let is : suc j ≡ i = cc in omega arith

-- a local variable that is found is in scope
pub named_within : (scope : Scope) (n i : ℕ) → local_named scope n ≡ Some i → suc i ≤ length scope
named_within [] n i e = cc
named_within (y ∷ scope) n i e =
    elim (is_named n (local_name y)) as (λ b. (if b then Some 0 else option_map suc (local_named scope n)) ≡ Some i → suc i ≤ suc (length scope)) [
      | true ↦ λ h. (let zero_is : 0 ≡ i = cc in omega arith)
      | false ↦ λ h. later_within (local_named scope n) (length scope) i (λ j p. named_within scope n j p) h
    ] e

-- lists whose end is the innermost variable
module _ {X Y : Type 0} (f : X → Y) where
  map-reverse : (xs : List X) → map f (reverse xs) ≡ reverse (map f xs)
  map-reverse [] = refl
  map-reverse (x ∷ xs) =
      ap (map f) (reverse-append (x ∷ []) xs) ∙ map-append f (reverse xs) (x ∷ []) ∙ ap (λ ys. ys ++ f x ∷ []) (map-reverse xs) ∙ sym (reverse-append (f x ∷ []) (map f xs))

  pub reversed_twice : (xs : List X) → reverse (map f (reverse xs)) ≡ map f xs
  reversed_twice xs = ap reverse (map-reverse xs) ∙ reverse-reverse (map f xs)

  -- without the last ones
  pub left_behind : (xs : List X) (k : ℕ) → k ≤ length xs → map f (reverse (take (length xs - k) xs)) ≡ drop k (map f (reverse xs))
  left_behind xs k le = ap (map f) (sym dropped) ∙ sym (drop-map f k (reverse xs))
    where
      front : List X
      front = take (length xs - k) xs

      back : List X
      back = drop (length xs - k) xs

      count : length (reverse back) ≡ k
      count = let a = length-reverse back in let b = length-drop (length xs - k) xs in omega arith

      dropped : drop k (reverse xs) ≡ reverse front
      dropped =
          ap (drop k) (ap reverse (sym (take-append-drop (length xs - k) xs)) ∙ reverse-append front back)
          ∙ ap (λ n. drop n (reverse back ++ reverse front)) (sym count) ∙ drop-append_seam (reverse back) (reverse front)

-- an item counted from the end
pub at_reversed : {X Y : Type 0} (f : X → Y) (xs : List X) (n i : ℕ) (x : X) → n ≡ length xs → i < n → x ≡ get_or xs (n - 1 - i) x
    → slice_get (map f (reverse xs)) i ≡ Some (f x)
at_reversed f xs n i x is l at =
    let within : i < length xs = omega arith in
    let back : i < length (reverse xs) = let e = length-reverse xs in omega arith in
    let same : get_or (reverse xs) i x ≡ x = get_or-reverse xs i x within ∙ ap (λ m. get_or xs (m - 1 - i) x) (sym is) ∙ sym at in
    slice_get-map f (reverse xs) i ∙ ap (option_map f) (slice_get-get_or (reverse xs) i x back ∙ ap Some same)

pub map-map : {X Y Z : Type 0} (f : X → Y) (g : Y → Z) (xs : List X) → map g (map f xs) ≡ map (λ x. g (f x)) xs
map-map f g [] = refl
map-map f g (x ∷ xs) = ap (λ ys. g (f x) ∷ ys) (map-map f g xs)
