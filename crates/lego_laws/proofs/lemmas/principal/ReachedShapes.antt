-- What holds at each place that the check comes to holds of the whole core.
use Rattle.std.proofs.Common.{◌≡◌, ℕ, zero, suc, ◌≤◌, ◌<◌, sym, subst, ⊎_elim, arith}
use Rattle.std.proofs.lemmas.Bool.{cases_lt}
use Rattle.lego_term.specs.Trees.{Core}
use Rattle.lego_term.specs.Weight.{height}
use Rattle.lego_laws.specs.Places.{Want, Nothing, AType, OfWrittenType, want_of, Site, type_site, Part, Task, IsShaped, AreShaped, ArePartsShaped, Comes, IsReached}
use Rattle.lego_laws.specs.Shape.{ReachedWantsHold, ReachedWantsGiveShapes}
use Rattle.lego_laws.proofs.lemmas.principal.ShapedParts.{parts_give_shapes, lower}
use Rattle.lego_laws.proofs.lemmas.principal.SolvedCores.{positive}

module _ (t : Task) (hold : ReachedWantsHold t) where
  give : (s : Site) (n : Core) (w : Want) → ArePartsShaped t.entries s n Nothing → IsReached t s n w → IsShaped t.entries s n w
  give s n w parts reached =
      parts_give_shapes t.entries s n w parts (λ h got r. hold.heads reached h r)
      (λ stated have e r. hold.pairs (subst (IsReached t s n) e reached) r)

  -- terms up to a height are shaped where the check comes to them
  Shaped : ℕ → Type 0
  Shaped k = (s : Site) (n : Core) (w : Want) → Comes t s n w → (ArePartsShaped t.entries s n Nothing → IsReached t s n w) → height n ≤ k → IsShaped t.entries s n w

  -- so are the parts of one that is one higher, one after another
  parts_to : (k : ℕ) → Shaped k → (s : Site) (n : Core) (w : Want) → Comes t s n w → height n ≤ suc k → (i : ℕ) → AreShaped t.entries s n Nothing i
  unfolding Shaped
  parts_to k below s n w c le zero = record { parts = λ p l. absurd (omega arith) }
  parts_to k below s n w c le (suc i) = next (parts_to k below s n w c le i)
    where
      at_part : AreShaped t.entries s n Nothing i → {s' : Site} {n' : Core} {w' : Want} {j : ℕ} → Part t.entries s n Nothing j s' n' w' → j ≡ i → IsShaped t.entries s' n' w'
      at_part before {s'} {n'} {w'} p e =
          let earlier = subst (AreShaped t.entries s n Nothing) (sym e) before in
          below s' n' w' (Comes.part c p earlier) (λ ps. IsReached.part c p earlier ps) (omega (arith, lower p))

      by_place : AreShaped t.entries s n Nothing i → {s' : Site} {n' : Core} {w' : Want} {j : ℕ} → Part t.entries s n Nothing j s' n' w' → j < suc i → IsShaped t.entries s' n' w'
      by_place before {s'} {n'} {w'} {j} p l =
          ⊎_elim (λ (m : j < i). before.parts p m) (λ (m : i ≤ j). at_part before p (omega arith)) (cases_lt j i)

      next : AreShaped t.entries s n Nothing i → AreShaped t.entries s n Nothing (suc i)
      next before = record { parts = λ p l. by_place before p l }

  shaped_to : (k : ℕ) → Shaped k
  unfolding Shaped
  shaped_to zero s n w c reached le = absurd (positive n le)
  shaped_to (suc k) s n w c reached le = let parts = parts_to k (shaped_to k) s n w c le 4 in give s n w parts (reached parts)

  root_parts : ArePartsShaped t.entries t.site t.core Nothing
  root_parts = parts_to (height t.core) (shaped_to (height t.core)) t.site t.core (want_of t.aim) Comes.root (omega arith) 4

  written : (a : Core) → t.aim ≡ OfWrittenType a → IsShaped t.entries (type_site t) a AType
  unfolding Shaped
  written a e = shaped_to (height a) (type_site t) a AType (Comes.written e root_parts) (λ ps. IsReached.written e root_parts ps) (omega arith)

pub reached_wants_give_shapes : ReachedWantsGiveShapes
reached_wants_give_shapes t hold =
    record {
      core = give t hold t.site t.core (want_of t.aim) (root_parts t hold) (IsReached.root (root_parts t hold) (written t hold));
      written = written t hold;
    }
