-- The variables of universes differ.
use Rattle.std.proofs.Common.{◌≡◌, ℕ, zero, suc, ◌<◌, Bool, true, false, List, [], ◌∷◌, ◌++◌, map, filter, take, All, refl, sym, subst, arith}
use Rattle.std.specs.List.{AllByRecursion}
use Rattle.std.proofs.lemmas.List.{map-append}
use Rattle.std.proofs.lemmas.List.Elements.{All-head, All-tail}
use Rattle.lego_level.specs.Graphs.{Differ}
use Rattle.lego_inference.specs.declared.entry.Universe.{Universe}
use Rattle.lego_context.proofs.EntryLemmas.{differ-push}

abbrev pub variables : List Universe → List ℕ
variables us = map (λ u. u.variable) us

apart_below : (us : List Universe) (n : ℕ) → All (λ u. u.variable < n) us → AllByRecursion (λ x. x ≡ n → ⊥) (variables us)
apart_below [] n h = tt
apart_below (u ∷ us) n h = (
  (λ e. let below = All-head (λ (w : Universe). w.variable < n) u us h in omega (arith, e, below)),
  apart_below us n (All-tail (λ (w : Universe). w.variable < n) u us h),
)

-- one universe more, whose variable is above the others
pub universes-push : (us : List Universe) (u : Universe) → All (λ w. w.variable < u.variable) us → Differ (variables us) → Differ (variables (us ++ u ∷ []))
universes-push us u below d = subst Differ (sym (map-append (λ (w : Universe). w.variable) us (u ∷ []))) (differ-push (variables us) u.variable d (apart_below us u.variable below))

module _ (p : Universe → Bool) where
  apart_kept : (x : ℕ) (us : List Universe) → AllByRecursion (λ y. x ≡ y → ⊥) (variables us) → AllByRecursion (λ y. x ≡ y → ⊥) (variables (filter p us))
  apart_kept x [] h = tt
  apart_kept x (u ∷ us) h = by_test (p u) refl (apart_kept x us h.1)
    where
      by_test : (b : Bool) → p u ≡ b → AllByRecursion (λ y. x ≡ y → ⊥) (variables (filter p us)) → AllByRecursion (λ y. x ≡ y → ⊥) (variables (filter p (u ∷ us)))
      by_test true t rest = rw t (h.0, rest)
      by_test false t rest = rw t rest

  -- those that are kept
  pub universes-filter : (us : List Universe) → Differ (variables us) → Differ (variables (filter p us))
  universes-filter [] d = tt
  universes-filter (u ∷ us) d = by_test (p u) refl (universes-filter us d.1)
    where
      by_test : (b : Bool) → p u ≡ b → Differ (variables (filter p us)) → Differ (variables (filter p (u ∷ us)))
      by_test true t rest = rw t (apart_kept u.variable us d.0, rest)
      by_test false t rest = rw t rest

-- the first ones
apart_taken : (n x : ℕ) (us : List Universe) → AllByRecursion (λ y. x ≡ y → ⊥) (variables us) → AllByRecursion (λ y. x ≡ y → ⊥) (variables (take n us))
apart_taken zero x us h = tt
apart_taken (suc n) x [] h = tt
apart_taken (suc n) x (u ∷ us) h = (h.0, apart_taken n x us h.1)

pub universes-take : (n : ℕ) (us : List Universe) → Differ (variables us) → Differ (variables (take n us))
universes-take zero us d = tt
universes-take (suc n) [] d = tt
universes-take (suc n) (u ∷ us) d = (apart_taken n u.variable us d.0, universes-take n us d.1)
