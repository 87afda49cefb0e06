-- Comparisons that are refused.
use Rattle.std.proofs.Common.{◌≡◌, ℕ, ◌⊎◌, List, Some, refl, sym, subst, ⊎_elim}
use Rattle.lego_base.specs.declared.place.Place.{Place}
use Rattle.lego_term.specs.declared.binder.Binder.{Binder}
use Rattle.lego_term.specs.Trees.{Core}
use Rattle.lego_term.specs.BodyMap.{BodyMap, bodies_in}
use Rattle.lego_laws.specs.Entries.{Entry, core_bodies}
use Rattle.lego_laws.specs.Facing.{Cumulativity}
use Rattle.lego_level.specs.declared.constraint.Constraint.{Constraint}
use Rattle.lego_compare.specs.declared.fault.CompareFault.{CompareFault}
use Rattle.lego_compare.specs.declared.fault.CompareFault.TheVariants as compare
use Rattle.lego_compare.specs.Answers.{IsDecidedBy, IsRefusedBy}
use Rattle.lego_inference.specs.declared.fault.TypeFault.{TypeFault}
use Rattle.lego_inference.specs.declared.fault.TypeFault.TheVariants as fault
use Rattle.lego_inference.specs.Locals.{seen_under}
use Rattle.lego_inference.specs.private.Judging.{PairFails}
use Rattle.lego_inference.specs.private.Wanting.{Refuses}

module _ (xs : List Binder) (m have want : Core) where
  pub refuses_mismatch : (f : CompareFault) (left right : Core) (deeper : ℕ) (why : TypeFault) → f ≡ compare.Differ left right deeper
      → ◌⊎◌ (why ≡ fault.Mismatch (seen_under xs m) (seen_under xs have) (seen_under xs want)) (why ≡ fault.Memory) → Refuses xs m have want f why
  refuses_mismatch f left right deeper why e h =
      ⊎_elim (λ (i : why ≡ fault.Mismatch (seen_under xs m) (seen_under xs have) (seen_under xs want)). subst (λ z. Refuses xs m have want z why) (sym e) (subst (Refuses xs m have want (compare.Differ left right deeper)) (sym i) Refuses.mismatch))
      (λ (i : why ≡ fault.Memory). subst (Refuses xs m have want f) (sym i) Refuses.memory) h

  pub refuses_budget : (f : CompareFault) (why : TypeFault) → f ≡ compare.Budget
      → ◌⊎◌ (why ≡ fault.Budget (seen_under xs have) (Some (seen_under xs want))) (why ≡ fault.Memory) → Refuses xs m have want f why
  refuses_budget f why e h =
      ⊎_elim (λ (i : why ≡ fault.Budget (seen_under xs have) (Some (seen_under xs want))). subst (λ z. Refuses xs m have want z why) (sym e) (subst (Refuses xs m have want compare.Budget) (sym i) Refuses.budget))
      (λ (i : why ≡ fault.Memory). subst (Refuses xs m have want f) (sym i) Refuses.memory) h

  pub refuses_large : (f : CompareFault) (size depth : ℕ) → f ≡ compare.TooLarge size depth → Refuses xs m have want f (fault.TooLarge size depth)
  refuses_large f size depth e = subst (λ z. Refuses xs m have want z (fault.TooLarge size depth)) (sym e) Refuses.too_large

  refused : (es : List Entry) (limit : ℕ) (f : CompareFault) (why : TypeFault) → IsRefusedBy Cumulativity (core_bodies es) have want limit f → Refuses xs m have want f why → PairFails es limit xs m have want why
  refused es limit _ _ h Refuses.mismatch = PairFails.mismatch (h.never (λ l. 0))
  refused es limit _ _ h Refuses.budget = PairFails.budget h.2 h.1
  refused es limit _ _ h Refuses.too_large = PairFails.too_large h.1 h.0
  refused es limit f _ h Refuses.memory = PairFails.memory

  pub pair_fails : (b : BodyMap) (es : List Entry) (limit : ℕ) (f : CompareFault) (why : TypeFault) → bodies_in b ≡ core_bodies es → IsRefusedBy Cumulativity (bodies_in b) have want limit f → Refuses xs m have want f why → PairFails es limit xs m have want why
  pair_fails b es limit f why are h r = refused es limit f why (subst (λ z. IsRefusedBy Cumulativity z have want limit f) are h) r
