-- Lists of locals.
use Rattle.std.proofs.Common.{◌≡◌, ℕ, zero, suc, ◌+◌, ◌≤◌, List, [], ◌∷◌, ◌++◌, map, reverse, length, slice_get, Some, option_map, refl, sym, ap, ◌∙◌, arith}
use Rattle.std.proofs.lemmas.List.{map-append, reverse-append, reverse-reverse}
use Rattle.lego_term.specs.Trees.{Core, loose}
use Rattle.lego_laws.specs.RuleTypeLaws.{AreScoped}

pub map-reverse : {X Y : Type 0} (f : X → Y) (xs : List X) → map f (reverse xs) ≡ reverse (map f xs)
map-reverse f [] = refl
map-reverse f (x ∷ xs) =
    ap (map f) (reverse-append (x ∷ []) xs) ∙ map-append f (reverse xs) (x ∷ []) ∙ ap (λ ys. ys ++ f x ∷ []) (map-reverse f xs) ∙ sym (reverse-append (f x ∷ []) (map f xs))

pub reversed_twice : {X Y : Type 0} (f : X → Y) (xs : List X) → reverse (map f (reverse xs)) ≡ map f xs
reversed_twice f xs = ap reverse (map-reverse f xs) ∙ reverse-reverse (map f xs)

-- a local type lifted past the locals up to it has no more loose variables than there are locals
pub local_scoped : (g : List Core) (i : ℕ) (a : Core) → AreScoped g → slice_get g i ≡ Some a → loose a + suc i ≤ length g
local_scoped [] i a s e = cc
local_scoped (t ∷ g) zero a s e = let is : t ≡ a = cc e in let l = ap (λ (z : Core). loose z) is in let le = s.0 in omega arith
local_scoped (t ∷ g) (suc i) a s e = let le = local_scoped g i a s.1 e in omega arith

pub length-map : {X Y : Type 0} (f : X → Y) (xs : List X) → length (map f xs) ≡ length xs
length-map f [] = refl
length-map f (x ∷ xs) = ap suc (length-map f xs)
