-- The first subtree over a limit is a subtree over a limit.
use Rattle.std.proofs.Common.{◌≡◌, ℕ, ◌⊎◌, inl, inr, nat_le, ◌&&◌, Bool, true, false, if◌then◌else◌, Option, Some, None, refl, ap, sym, subst, arith}
use Rattle.std.proofs.lemmas.Bool.Decides.{nat_tests}
use Rattle.lego_term.specs.Trees.{Core, Var, Const, Prop, Univ, Pi, Lam, App, Sigma, Pair, Fst, Snd, Let, size, depth}
use Rattle.lego_term.specs.Made.{Passes, either_of, over, first_over}
use Rattle.lego_term.specs.Parts.{Subtree, whole, part, IsTooLarge, subtree}

from_either : (o p : Option (ℕ × ℕ)) (q : ℕ × ℕ) → either_of o p ≡ Some q → (o ≡ Some q) ⊎ (p ≡ Some q)
from_either None p q e = inr e
from_either (Some x) p q e = inl e

pub large_whole : (t : Core) (i j : ℕ) → i ≡ size t → j ≡ depth t → Passes t → IsTooLarge t i j
large_whole t i j e f p = subst (λ m. IsTooLarge t m j) (sym e) (subst (IsTooLarge t (size t)) (sym f) (subtree whole p))

passes : (t : Core) → (nat_le (size t) 1048576 && nat_le (depth t) 2000) ≡ false → Passes t
passes t e =
    elim (nat_le (size t) 1048576) as (λ b. nat_le (size t) 1048576 ≡ b → (b && nat_le (depth t) 2000) ≡ false → Passes t) [
      | true ↦ λ p q. inr (grind (arith, nat_tests))
      | false ↦ λ p q. inl (grind (arith, nat_tests))
    ] refl e

over-large : (t : Core) (i j : ℕ) → over t ≡ Some (i, j) → IsTooLarge t i j
over-large t i j e =
    let test : Bool = nat_le (size t) 1048576 && nat_le (depth t) 2000 in
    let numbers : ℕ × ℕ = (size t, depth t) in
    elim test as (λ b. test ≡ b → (if b then None else Some numbers) ≡ Some (i, j) → IsTooLarge t i j) [
      | true ↦ λ p q. absurd (cc)
      | false ↦ λ p q. (let pair : ◌≡◌ {A = ℕ × ℕ} (size t, depth t) (i, j) = cc in large_whole t i j (ap (λ x. x.0) (sym pair)) (ap (λ x. x.1) (sym pair)) (passes t p))
    ] refl e

in_part : (t u : Core) (i j : ℕ) → ((v : Core) → Subtree v u → Subtree v t) → IsTooLarge u i j → IsTooLarge t i j
in_part t u _ _ up (subtree {v} s p) = subtree (up v s) p

pub first_over-large : (t : Core) (i j : ℕ) → first_over t ≡ Some (i, j) → IsTooLarge t i j
first_over-large (Var n) i j e = absurd (cc)
first_over-large (Const k) i j e = absurd (cc)
first_over-large Prop i j e = absurd (cc)
first_over-large (Univ l) i j e = absurd (cc)
first_over-large (Pi x a b) i j e =
    elim (from_either (first_over a) _ (i, j) e) [
      | inl p ↦ in_part _ a i j (λ v s. part 0 refl s) (first_over-large a i j p)
      | inr p ↦ elim (from_either (first_over b) _ (i, j) p) [
        | inl q ↦ in_part _ b i j (λ v s. part 1 refl s) (first_over-large b i j q)
        | inr q ↦ over-large _ i j q
      ]
    ]
first_over-large (Lam x a b) i j e =
    elim (from_either (first_over a) _ (i, j) e) [
      | inl p ↦ in_part _ a i j (λ v s. part 0 refl s) (first_over-large a i j p)
      | inr p ↦ elim (from_either (first_over b) _ (i, j) p) [
        | inl q ↦ in_part _ b i j (λ v s. part 1 refl s) (first_over-large b i j q)
        | inr q ↦ over-large _ i j q
      ]
    ]
first_over-large (App k a b) i j e =
    elim (from_either (first_over a) _ (i, j) e) [
      | inl p ↦ in_part _ a i j (λ v s. part 0 refl s) (first_over-large a i j p)
      | inr p ↦ elim (from_either (first_over b) _ (i, j) p) [
        | inl q ↦ in_part _ b i j (λ v s. part 1 refl s) (first_over-large b i j q)
        | inr q ↦ over-large _ i j q
      ]
    ]
first_over-large (Sigma x a b) i j e =
    elim (from_either (first_over a) _ (i, j) e) [
      | inl p ↦ in_part _ a i j (λ v s. part 0 refl s) (first_over-large a i j p)
      | inr p ↦ elim (from_either (first_over b) _ (i, j) p) [
        | inl q ↦ in_part _ b i j (λ v s. part 1 refl s) (first_over-large b i j q)
        | inr q ↦ over-large _ i j q
      ]
    ]
first_over-large (Pair x a b m n) i j e =
    elim (from_either (first_over a) _ (i, j) e) [
      | inl p ↦ in_part _ a i j (λ v s. part 0 refl s) (first_over-large a i j p)
      | inr p ↦ elim (from_either (first_over b) _ (i, j) p) [
        | inl q ↦ in_part _ b i j (λ v s. part 1 refl s) (first_over-large b i j q)
        | inr q ↦ elim (from_either (first_over m) _ (i, j) q) [
          | inl r ↦ in_part _ m i j (λ v s. part 2 refl s) (first_over-large m i j r)
          | inr r ↦ elim (from_either (first_over n) _ (i, j) r) [
            | inl o ↦ in_part _ n i j (λ v s. part 3 refl s) (first_over-large n i j o)
            | inr o ↦ over-large _ i j o
          ]
        ]
      ]
    ]
first_over-large (Fst m) i j e =
    elim (from_either (first_over m) _ (i, j) e) [
      | inl p ↦ in_part _ m i j (λ v s. part 0 refl s) (first_over-large m i j p)
      | inr p ↦ over-large _ i j p
    ]
first_over-large (Snd m) i j e =
    elim (from_either (first_over m) _ (i, j) e) [
      | inl p ↦ in_part _ m i j (λ v s. part 0 refl s) (first_over-large m i j p)
      | inr p ↦ over-large _ i j p
    ]
first_over-large (Let x m n) i j e =
    elim (from_either (first_over m) _ (i, j) e) [
      | inl p ↦ in_part _ m i j (λ v s. part 0 refl s) (first_over-large m i j p)
      | inr p ↦ elim (from_either (first_over n) _ (i, j) p) [
        | inl q ↦ in_part _ n i j (λ v s. part 1 refl s) (first_over-large n i j q)
        | inr q ↦ over-large _ i j q
      ]
    ]
