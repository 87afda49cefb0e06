-- The values of a potential.
use Rattle.std.proofs.Common.{◌≡◌, ℕ, ◌<◌, ◌≤◌, Option, Some, None, [], ◌∷◌, ◌++◌, length, get_or, set, sym, ap, ◌∙◌, ⊎_elim, arith, subst}
use Rattle.std.proofs.lemmas.Bool.{cases_lt, cases_eq}
use Rattle.std.proofs.lemmas.List.{get_or_append_left, get_or_push, get_or_past, get_or-set_same, get_or-set_other, length_push}
use Rattle.std.proofs.Math.Path.{fun_ext}
use Rattle.lego_level.specs.declared.limits.TheConstants.{START}
use Rattle.lego_level.specs.declared.potential.Potential.{Potential}
use Rattle.lego_level.specs.private.Potentials.{value_at, IsBelowTop, HasRoom}

pub value_zero : (p : Potential) (w : Option ℕ) → w ≡ None → value_at p w ≡ p.zero
unfolding value_at
value_zero p w e = ap (value_at p) e

pub value_variable : (p : Potential) (w : Option ℕ) (u : ℕ) → w ≡ Some u → value_at p w ≡ get_or p.values.items u START
unfolding value_at
value_variable p w u e = ap (value_at p) e

pub value_start : (p : Potential) → p.zero ≡ START → p.values.items ≡ [] → (u : Option ℕ) → value_at p u ≡ START
unfolding value_at
value_start p z e None = z
value_start p z e (Some u) = ap (λ xs. get_or xs u START) e

push_at : (p p' : Potential) → p'.zero ≡ p.zero → p'.values.items ≡ p.values.items ++ START ∷ [] → (u : Option ℕ) → value_at p' u ≡ value_at p u
unfolding value_at
push_at p p' z e None = z
push_at p p' z e (Some u) =
    let xs = p.values.items in ap (λ ys. get_or ys u START) e ∙ ⊎_elim {C = get_or (xs ++ START ∷ []) u START ≡ get_or xs u START}
    (λ l. get_or_append_left xs (START ∷ []) START u l)
    (λ g. ⊎_elim {C = get_or (xs ++ START ∷ []) u START ≡ get_or xs u START}
    (λ k. get_or_push xs START START u (sym k) ∙ sym (get_or_past xs u START g))
    (λ ne. let k = length_push xs START in get_or_past (xs ++ START ∷ []) u START (omega (arith, k, g, ne)) ∙ sym (get_or_past xs u START g)) (cases_eq u (length xs)))
    (cases_lt u (length xs))

-- a value that all begin with is pushed
pub value_push : (p p' : Potential) → p'.zero ≡ p.zero → p'.values.items ≡ p.values.items ++ START ∷ [] → value_at p' ≡ value_at p
value_push p p' z e = fun_ext (push_at p p' z e)

same_at : (p p' : Potential) → p'.zero ≡ p.zero → p'.values.items ≡ p.values.items → (u : Option ℕ) → value_at p' u ≡ value_at p u
unfolding value_at
same_at p p' z e None = z
same_at p p' z e (Some u) = ap (λ ys. get_or ys u START) e

pub value_same : (p p' : Potential) → p'.zero ≡ p.zero → p'.values.items ≡ p.values.items → value_at p' ≡ value_at p
value_same p p' z e = fun_ext (same_at p p' z e)

pub top_same : (p p' : Potential) → value_at p' ≡ value_at p → p'.top ≡ p.top → IsBelowTop p → IsBelowTop p'
top_same p p' e t b u = let l = b u in let k : value_at p' (Some u) ≡ value_at p (Some u) = ap (λ (m : Option ℕ → ℕ). m (Some u)) e in omega (arith, l, k, t)

-- the value of the zero node changes
pub zero_other : (p p' : Potential) (w : Option ℕ) → w ≡ None → p'.values ≡ p.values → (u : Option ℕ) → (u ≡ w → ⊥) → value_at p' u ≡ value_at p u
unfolding value_at
zero_other p p' w is same None ne = absurd (ne (sym is))
zero_other p p' w is same (Some u) ne = ap (λ xs. get_or xs.items u START) same

-- the value of a variable changes
pub set_at : (p p' : Potential) (w : Option ℕ) (x y : ℕ) → w ≡ Some x → p'.values.items ≡ set p.values.items x y → x < length p.values.items → value_at p' w ≡ y
unfolding value_at
set_at p p' w x y is e h = ap (value_at p') is ∙ (ap (λ xs. get_or xs x START) e ∙ get_or-set_same p.values.items x y START h)

pub set_other : (p p' : Potential) (w : Option ℕ) (x y : ℕ) → w ≡ Some x → p'.zero ≡ p.zero → p'.values.items ≡ set p.values.items x y → (u : Option ℕ) → (u ≡ w → ⊥) → value_at p' u ≡ value_at p u
unfolding value_at
set_other p p' w x y is z e None ne = z
set_other p p' w x y is z e (Some u) ne = ap (λ xs. get_or xs u START) e ∙ get_or-set_other p.values.items x u y START (λ k. ne (ap Some k ∙ sym is))

pub top_zero : (p p' : Potential) (w : Option ℕ) → w ≡ None → ((u : Option ℕ) → (u ≡ w → ⊥) → value_at p' u ≡ value_at p u) → p'.top ≡ p.top → IsBelowTop p → IsBelowTop p'
top_zero p p' w is other top b u = let e = other (Some u) (λ k. absurd (let z : Some u ≡ None = k ∙ is in cc)) in let l = b u in omega (arith, e, l, top)

pub top_set : (p p' : Potential) (w : Option ℕ) (x y : ℕ) → w ≡ Some x → value_at p' w ≡ y → ((u : Option ℕ) → (u ≡ w → ⊥) → value_at p' u ≡ value_at p u) → p.top ≤ p'.top → y ≤ p'.top → IsBelowTop p → IsBelowTop p'
top_set p p' w x y is at other more below b u = ⊎_elim {C = value_at p' (Some u) ≤ p'.top}
    (λ k. let e : value_at p' (Some u) ≡ y = ap (value_at p') (ap Some k ∙ sym is) ∙ at in omega (arith, e, below))
    (λ ne. let e = other (Some u) (λ k. ne (some_same u x (k ∙ is))) in let l = b u in omega (arith, e, l, more)) (cases_eq u x)
  where
    some_same : (a b : ℕ) → Some a ≡ Some b → a ≡ b
    some_same a b e = cc

pub room_variable : (p : Potential) (w : Option ℕ) (u : ℕ) → w ≡ Some u → HasRoom p w → u < length p.values.items
room_variable p w u e h = subst (HasRoom p) e h

pub room_of : (p : Potential) (w : Option ℕ) (u : ℕ) → w ≡ Some u → u < length p.values.items → HasRoom p w
room_of p w u e h = subst (HasRoom p) (sym e) h

pub room_longer : (p p' : Potential) (w : Option ℕ) → length p.values.items ≤ length p'.values.items → HasRoom p w → HasRoom p' w
room_longer p p' None l h = tt
room_longer p p' (Some u) l h = omega (arith, l, h)
