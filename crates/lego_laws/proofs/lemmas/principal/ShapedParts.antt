-- A term whose parts are shaped, and which is as its place wants it, is shaped.
use Rattle.std.proofs.Common.{◌≡◌, ℕ, zero, suc, ◌≤◌, ◌<◌, List, refl, sym, ◌∙◌, arith, subst}
use Rattle.lego_term.specs.declared.binder.Binder.{Binder}
use Rattle.lego_term.specs.Trees.{Core, Let, instantiate}
use Rattle.lego_term.specs.Weight.{height}
use Rattle.lego_laws.specs.Entries.{Entry}
use Rattle.lego_laws.specs.RuleTypes.{RuleType, nodes}
use Rattle.lego_laws.specs.Places.{Want, Nothing, Stated, Site, behind, RuleTypeAt, Part, Within, WantsHead, IsFulfilled, BelowAtZero, IsShaped, ArePartsShaped}
use Rattle.lego_laws.specs.Shape.{PartsGiveShapes}
use Rattle.lego_laws.proofs.lemmas.principal.SolvedCores.{heights, positive}

-- a part is less high than the whole
pub lower : {es : List Entry} {s s' : Site} {n n' : Core} {w w' : Want} {i : ℕ} → Part es s n w i s' n' w' → height n' < height n
lower (Part.pi_domain {x = x} {a = a} {b = b}) = omega (arith, heights.pi x a b)
lower (Part.pi_body {x = x} {a = a} {b = b}) = omega (arith, heights.pi x a b)
lower (Part.lam_domain {x = x} {a = a} {m = b}) = omega (arith, heights.lam x a b)
lower (Part.lam_body {x = x} {a = a} {m = b}) = omega (arith, heights.lam x a b)
lower (Part.function {k = k} {m = m} {n = n}) = omega (arith, heights.app k m n)
lower (Part.argument {k = k} {m = m} {n = n} r h) = omega (arith, heights.app k m n)
lower (Part.sigma_domain {x = x} {a = a} {b = b}) = omega (arith, heights.sigma x a b)
lower (Part.sigma_body {x = x} {a = a} {b = b}) = omega (arith, heights.sigma x a b)
lower (Part.pair_domain {x = x} {a = a} {b = b} {m = m} {n = n}) = omega (arith, heights.pair x a b m n)
lower (Part.pair_body {x = x} {a = a} {b = b} {m = m} {n = n}) = omega (arith, heights.pair x a b m n)
lower (Part.pair_first {x = x} {a = a} {b = b} {m = m} {n = n}) = omega (arith, heights.pair x a b m n)
lower (Part.pair_second {x = x} {a = a} {b = b} {m = m} {n = n}) = omega (arith, heights.pair x a b m n)
lower (Part.fst_operand {m = m}) = omega (arith, heights.fst m)
lower (Part.snd_operand {m = m}) = omega (arith, heights.snd m)
lower (Part.local_value {x = x} {m = m} {n = n}) = omega (arith, heights.local x m n)
lower (Part.local_body {x = x} {m = m} {n = n}) = omega (arith, heights.local x m n)

few_parts : {es : List Entry} {s s' : Site} {n n' : Core} {w w' : Want} {i : ℕ} → Part es s n w i s' n' w' → i < 4
few_parts Part.pi_domain = omega arith
few_parts Part.pi_body = omega arith
few_parts Part.lam_domain = omega arith
few_parts Part.lam_body = omega arith
few_parts Part.function = omega arith
few_parts (Part.argument r h) = omega arith
few_parts Part.sigma_domain = omega arith
few_parts Part.sigma_body = omega arith
few_parts Part.pair_domain = omega arith
few_parts Part.pair_body = omega arith
few_parts Part.pair_first = omega arith
few_parts Part.pair_second = omega arith
few_parts Part.fst_operand = omega arith
few_parts Part.snd_operand = omega arith
few_parts Part.local_value = omega arith
few_parts Part.local_body = omega arith

module _ (es : List Entry) (s : Site) (n : Core) (w : Want) where
  -- what stands in the term stands in a part, unless it is the whole
  pub data FromPart (s' : Site) (n' : Core) (w' : Want) : Type 0 where
    whole : s' ≡ s → n' ≡ n → w' ≡ w → FromPart s' n' w'
    in_part : {s₁ : Site} {n₁ : Core} {w₁ : Want} {i : ℕ} → Part es s n w i s₁ n₁ w₁ → Within es s₁ n₁ w₁ s' n' w' → FromPart s' n' w'

  first_part : {s' : Site} {n' : Core} {w' : Want} {i : ℕ} → Part es s n w i s' n' w' → FromPart s' n' w'
  first_part p = in_part p Within.itself

  further : {s' s'' : Site} {n' n'' : Core} {w' w'' : Want} {i : ℕ} → FromPart s' n' w' → Part es s' n' w' i s'' n'' w'' → FromPart s'' n'' w''
  further (in_part q k) p = in_part q (Within.part k p)
  further {s' = s'} {s'' = s''} {n' = n'} {n'' = n''} {w'' = w''} {i = i} (whole at_site is_term is_want) p =
      first_part (subst (λ z. Part es z n w i s'' n'' w'') at_site (subst (λ z. Part es s' z w i s'' n'' w'') is_term (subst (λ z. Part es s' n' z i s'' n'' w'') is_want p)))

  pub from_part : {s' : Site} {n' : Core} {w' : Want} → Within es s n w s' n' w' → FromPart s' n' w'
  from_part Within.itself = whole refl refl refl
  from_part (Within.part h p) = further (from_part h) p

  module _ (parts : ArePartsShaped es s n w) (head : WantsHead w → (got : Core) → RuleTypeAt es s n got → IsFulfilled es w got) (pair : (stated have : Core) → w ≡ Stated stated → RuleTypeAt es s n have → BelowAtZero es have stated) where
    head_at : {s' : Site} {n' got : Core} {w' : Want} → FromPart s' n' w' → WantsHead w' → RuleTypeAt es s' n' got → IsFulfilled es w' got
    head_at (in_part q k) h r = (parts.parts q (few_parts q)).heads k h r
    head_at {s' = s'} {got = got} {w' = w'} (whole at_site is_term is_want) h r =
        subst (λ z. IsFulfilled es z got) (sym is_want)
        (head (subst WantsHead is_want h) got (subst (λ z. RuleTypeAt es z n got) at_site (subst (λ z. RuleTypeAt es s' z got) is_term r)))

    pair_at : {s' : Site} {n' have stated : Core} {w' : Want} → w' ≡ Stated stated → FromPart s' n' w' → RuleTypeAt es s' n' have → BelowAtZero es have stated
    pair_at {s' = s'} {n' = n'} e (in_part {s₁ = s₁} {n₁ = n₁} {w₁ = w₁} q k) r =
        (parts.parts q (few_parts q)).pairs (subst (λ z. Within es s₁ n₁ w₁ s' n' z) e k) r
    pair_at {s' = s'} {have = have} {stated = stated} e (whole at_site is_term is_want) r =
        pair stated have (sym is_want ∙ e) (subst (λ z. RuleTypeAt es z n have) at_site (subst (λ z. RuleTypeAt es s' z have) is_term r))

-- what is wanted at the place of a term holds of it: its head is of the form that is wanted, or it is below the type stated
record IsAsWanted (es : List Entry) (s : Site) (n : Core) (w : Want) : Type 0 where
  head : WantsHead w → (got : Core) → RuleTypeAt es s n got → IsFulfilled es w got
  pair : (stated have : Core) → w ≡ Stated stated → RuleTypeAt es s n have → BelowAtZero es have stated

from_parts : {es : List Entry} {s : Site} {n : Core} {w : Want} → ArePartsShaped es s n w → IsAsWanted es s n w → IsShaped es s n w
from_parts {es} {s} {n} {w} parts is =
    record {
      heads = λ k h r. head_at es s n w parts is.head is.pair (from_part es s n w k) h r;
      pairs = λ k r. pair_at es s n w parts is.head is.pair refl (from_part es s n w k) r;
    }

-- what stands in a part stands in the whole, and the parts of a shaped term are shaped
behind_part : {es : List Entry} {s s₁ : Site} {n n₁ : Core} {w w₁ : Want} {i : ℕ} {s' : Site} {n' : Core} {w' : Want} → Part es s n w i s₁ n₁ w₁ → Within es s₁ n₁ w₁ s' n' w' → Within es s n w s' n' w'
behind_part p Within.itself = Within.part Within.itself p
behind_part p (Within.part h q) = Within.part (behind_part p h) q

parts_shaped : {es : List Entry} {s : Site} {n : Core} {w : Want} → IsShaped es s n w → ArePartsShaped es s n w
parts_shaped {es} {s} {n} {w} shape = record { parts = λ p l. part_shaped p }
  where
    part_shaped : {s' : Site} {n' : Core} {w' : Want} {i : ℕ} → Part es s n w i s' n' w' → IsShaped es s' n' w'
    part_shaped p = record { heads = λ k h r. shape.heads (behind_part p k) h r; pairs = λ k r. shape.pairs (behind_part p k) r }

-- the rule type of a local definition is that of its body with the value put in
of_body : {es : List Entry} {s : Site} {m n : Core} {x : Binder} {w : Want} → IsAsWanted es s (Let x m n) w → IsAsWanted es (behind (nodes m) s) (instantiate n m) w
of_body is = record { head = λ h got r. is.head h got (RuleType.local r); pair = λ stated have e r. is.pair stated have e (RuleType.local r) }

-- terms up to a height whose parts are shaped where nothing is wanted of them are shaped, being as wanted
Gives : List Entry → ℕ → Type 0
Gives es k = (s : Site) (n : Core) (w : Want) → height n ≤ k → ArePartsShaped es s n Nothing → IsAsWanted es s n w → IsShaped es s n w

body_shaped : (es : List Entry) (k : ℕ) → Gives es k → (s : Site) (x : Binder) (m n : Core) (w : Want) → height (Let x m n) ≤ suc k → ArePartsShaped es s (Let x m n) Nothing → IsAsWanted es s (Let x m n) w → IsShaped es (behind (nodes m) s) (instantiate n m) w
unfolding Gives
body_shaped es k below s x m n w le parts is =
    below (behind (nodes m) s) (instantiate n m) w (omega (arith, heights.local x m n)) (parts_shaped (parts.parts Part.local_body (omega arith))) (of_body is)

part_as : (es : List Entry) (k : ℕ) → Gives es k → {s s' : Site} {n n' : Core} {w w' : Want} {i : ℕ} → height n ≤ suc k → ArePartsShaped es s n Nothing → IsAsWanted es s n w → Part es s n w i s' n' w' → IsShaped es s' n' w'
part_as es k below le parts is Part.pi_domain = parts.parts Part.pi_domain (omega arith)
part_as es k below le parts is Part.pi_body = parts.parts Part.pi_body (omega arith)
part_as es k below le parts is Part.lam_domain = parts.parts Part.lam_domain (omega arith)
part_as es k below le parts is Part.lam_body = parts.parts Part.lam_body (omega arith)
part_as es k below le parts is Part.function = parts.parts Part.function (omega arith)
part_as es k below le parts is (Part.argument r h) = parts.parts (Part.argument r h) (omega arith)
part_as es k below le parts is Part.sigma_domain = parts.parts Part.sigma_domain (omega arith)
part_as es k below le parts is Part.sigma_body = parts.parts Part.sigma_body (omega arith)
part_as es k below le parts is Part.pair_domain = parts.parts Part.pair_domain (omega arith)
part_as es k below le parts is Part.pair_body = parts.parts Part.pair_body (omega arith)
part_as es k below le parts is Part.pair_first = parts.parts Part.pair_first (omega arith)
part_as es k below le parts is Part.pair_second = parts.parts Part.pair_second (omega arith)
part_as es k below le parts is Part.fst_operand = parts.parts Part.fst_operand (omega arith)
part_as es k below le parts is Part.snd_operand = parts.parts Part.snd_operand (omega arith)
part_as es k below le parts is Part.local_value = parts.parts Part.local_value (omega arith)
part_as es k below {s = s} {w = w} le parts is (Part.local_body {x = x} {m = m} {n = n}) = body_shaped es k below s x m n w le parts is

gives : (es : List Entry) (k : ℕ) → Gives es k
unfolding Gives
gives es zero s n w le parts is = absurd (positive n le)
gives es (suc k) s n w le parts is = from_parts (record { parts = λ p l. part_as es k (gives es k) le parts is p }) is

pub parts_give_shapes : PartsGiveShapes
unfolding Gives
parts_give_shapes es s n w parts head pair = gives es (height n) s n w (omega arith) parts (record { head = head; pair = pair })
