-- What is known of the reached nodes.
use Rattle.std.proofs.Common.{◌≡◌, ℕ, Option, Some, None, [], ◌∷◌, ◌++◌, ◌⊎◌, Vec, Global, nat_eq, false, Contains, refl, sym, ap, ◌∙◌, inl, inr, ⊎_elim, arith, subst}
use Rattle.std.specs.HashMap.{get}
use Rattle.std.proofs.lemmas.Bool.Decides.{nat_tests}
use Rattle.std.proofs.lemmas.List.Elements.{Contains-push, Contains-append_left}
use Rattle.lego_level.specs.declared.draft.Reached.{Reached}
use Rattle.lego_level.specs.declared.draft.Draft.{Draft}
use Rattle.lego_level.specs.private.Searches.{found_at, IsTouched}
use Rattle.lego_level.proofs.SearchLemmas.{node_cases}

pub found_none : (d : Draft) → d.zero ≡ None → ((u : ℕ) → get nat_eq d.variables u ≡ None) → (u : Option ℕ) → found_at d u ≡ None
unfolding found_at
found_none d z all None = z
found_none d z all (Some u) = all u

pub found_zero : (d : Draft) (w : Option ℕ) → w ≡ None → found_at d w ≡ d.zero
unfolding found_at
found_zero d w e = ap (found_at d) e

pub found_variable : (d : Draft) (w : Option ℕ) (u : ℕ) → w ≡ Some u → found_at d w ≡ get nat_eq d.variables u
unfolding found_at
found_variable d w u e = ap (found_at d) e

-- what is known of the zero node changes
pub set_zero : (d d' : Draft) (w : Option ℕ) → w ≡ None → d'.variables ≡ d.variables → (u : Option ℕ) → (u ≡ w → ⊥) → found_at d' u ≡ found_at d u
unfolding found_at
set_zero d d' w is same None ne = absurd (ne (sym is))
set_zero d d' w is same (Some u) ne = ap (λ m. get nat_eq m u) same

-- what is known of a variable changes
pub set_variable : (d d' : Draft) (w : Option ℕ) (x : ℕ) → w ≡ Some x → d'.zero ≡ d.zero → ((u : ℕ) → nat_eq x u ≡ false → get nat_eq d'.variables u ≡ get nat_eq d.variables u)
    → (u : Option ℕ) → (u ≡ w → ⊥) → found_at d' u ≡ found_at d u
unfolding found_at
set_variable d d' w x is same other None ne = same
set_variable d d' w x is same other (Some u) ne = other u (let apart : u ≡ x → ⊥ = λ e. ne (ap Some e ∙ sym is) in let h : nat_eq x u ≡ false = grind (arith, nat_tests) in h)

pub touched_new : (old new : Draft) (w : Option ℕ) → ((u : Option ℕ) → (u ≡ w → ⊥) → found_at new u ≡ found_at old u) → new.touched.items ≡ old.touched.items ++ w ∷ [] → IsTouched old → IsTouched new
touched_new old new w other is was u r h = subst (λ z. Contains z u) (sym is) (⊎_elim {C = Contains (old.touched.items ++ w ∷ []) u}
    (λ e. subst (λ z. Contains (old.touched.items ++ w ∷ []) z) (sym e) (Contains-push old.touched.items w))
    (λ ne. Contains-append_left old.touched.items (w ∷ []) u (was u r (sym (other u ne) ∙ h))) (node_cases u w))

pub touched_again : (old new : Draft) (w : Option ℕ) (x : Reached) → ((u : Option ℕ) → (u ≡ w → ⊥) → found_at new u ≡ found_at old u) → found_at old w ≡ Some x → new.touched ≡ old.touched → IsTouched old → IsTouched new
touched_again old new w x other before is was u r h = subst (λ (z : Vec (Option ℕ) Global). Contains z.items u) (sym is) (⊎_elim {C = Contains old.touched.items u}
    (λ e. was u x (ap (found_at old) e ∙ before))
    (λ ne. was u r (sym (other u ne) ∙ h)) (node_cases u w))

pub option_cases : {X : Type 0} (o : Option X) → (o ≡ None) ⊎ ((x : X) × (o ≡ Some x))
option_cases None = inl refl
option_cases (Some x) = inr (x, refl)

pub found_same : (d d' : Draft) → d'.zero ≡ d.zero → d'.variables ≡ d.variables → (u : Option ℕ) → found_at d' u ≡ found_at d u
unfolding found_at
found_same d d' z e None = z
found_same d d' z e (Some u) = ap (λ m. get nat_eq m u) e
