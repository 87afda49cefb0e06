-- Steps bring no loose variable, and the loose variables of a rule type are locals.
use Rattle.std.proofs.Common.{◌≡◌, ℕ, zero, suc, ◌+◌, ◌≤◌, Some, option_map, List, [], ◌∷◌, length, slice_get, ap, arith}
use Rattle.lego_term.specs.Trees.{Core, Fst, loose}
use Rattle.lego_term.specs.Steps.{Contracts, Step}
use Rattle.lego_term.specs.Sequences.{HeadForm}
use Rattle.lego_term.proofs.LooseLemmas.{loose-lift, loose-instantiate}
use Rattle.lego_laws.specs.Parallel.{CoreBodies, AreClosed, Star, stop, go}
use Rattle.lego_laws.specs.Entries.{Entry, core_bodies}
use Rattle.lego_laws.specs.RuleTypes.{RuleType}
use Rattle.lego_laws.specs.RuleTypeLaws.{AreScoped, RuleTypesAreScoped}
use Rattle.lego_laws.specs.Principal.{core_types}
use Rattle.lego_laws.proofs.lemmas.reduction.HeadSteps.{head_steps}

module _ (b : CoreBodies) (closed : AreClosed b) where
  scoped_contracted : {t u : Core} → Contracts b t u → loose u ≤ loose t
  scoped_contracted (Contracts.beta {m = m} {n = n}) = omega (arith, loose-instantiate m n)
  scoped_contracted Contracts.first = omega arith
  scoped_contracted Contracts.second = omega arith
  scoped_contracted (Contracts.local {m = m} {n = n}) = omega (arith, loose-instantiate n m)
  scoped_contracted (Contracts.unfolds {k = k} {m = m} e) = let z = closed k m e in omega arith

  pub scoped_step : {t u : Core} → Step b t u → loose u ≤ loose t
  scoped_step (Step.here c) = scoped_contracted c
  scoped_step (Step.pi_domain s) = let h = scoped_step s in omega arith
  scoped_step (Step.pi_body s) = let h = scoped_step s in omega arith
  scoped_step (Step.lam_domain s) = let h = scoped_step s in omega arith
  scoped_step (Step.lam_body s) = let h = scoped_step s in omega arith
  scoped_step (Step.function s) = let h = scoped_step s in omega arith
  scoped_step (Step.argument s) = let h = scoped_step s in omega arith
  scoped_step (Step.sigma_domain s) = let h = scoped_step s in omega arith
  scoped_step (Step.local_value s) = let h = scoped_step s in omega arith
  scoped_step (Step.sigma_body s) = let h = scoped_step s in omega arith
  scoped_step (Step.local_body s) = let h = scoped_step s in omega arith
  scoped_step (Step.pair_domain s) = let h = scoped_step s in omega arith
  scoped_step (Step.pair_body s) = let h = scoped_step s in omega arith
  scoped_step (Step.pair_first s) = let h = scoped_step s in omega arith
  scoped_step (Step.pair_second s) = let h = scoped_step s in omega arith
  scoped_step (Step.fst_operand s) = scoped_step s
  scoped_step (Step.snd_operand s) = scoped_step s

  scoped_run : {t u : Core} → Star (Step b) t u → loose u ≤ loose t
  scoped_run stop = omega arith
  scoped_run (go s p) = let h = scoped_step s in let k = scoped_run p in omega arith

  pub scoped_head : {t h : Core} → HeadForm b t h → loose h ≤ loose t
  scoped_head {t} {h} p = scoped_run (head_steps b p.0 t h p.1.reaches)

local_scoped : (g : List Core) (i : ℕ) (a : Core) → AreScoped g → slice_get g i ≡ Some a → loose a + suc i ≤ length g
local_scoped [] i a s e = cc
local_scoped (t ∷ g) zero a s e = let is : t ≡ a = cc e in let l = ap (λ (z : Core). loose z) is in let le = s.0 in omega arith
local_scoped (t ∷ g) (suc i) a s e = let le = local_scoped g i a s.1 e in omega arith

module _ (es : List Entry) (types : AreClosed (core_types es)) (bodies : AreClosed (core_bodies es)) (w : ℕ → ℕ) where
  rule_type_scoped : {g : List Core} {n : ℕ} {m a : Core} → AreScoped g → loose m ≤ length g → RuleType es w g n m a → loose a ≤ length g
  rule_type_scoped {g} s le (RuleType.variable {i = i} {a = a} e) = let l = local_scoped g i a s e in omega (arith, loose-lift 0 (suc i) a)
  rule_type_scoped s le (RuleType.constant {k = k} {e = e} p) = let z = types k e.ty (ap (option_map (λ (y : Entry). y.ty)) p) in omega arith
  rule_type_scoped s le RuleType.prop = omega arith
  rule_type_scoped s le RuleType.universe = omega arith
  rule_type_scoped s le (RuleType.pi_prop r h) = omega arith
  rule_type_scoped s le (RuleType.pi_type r h o) = omega arith
  rule_type_scoped s le RuleType.sigma = omega arith
  rule_type_scoped s le (RuleType.lambda r) = let k = rule_type_scoped (omega arith, s) (omega arith) r in omega arith
  rule_type_scoped s le (RuleType.application {b = b} {m = m} r h) =
      let k = rule_type_scoped s (omega arith) r in
      let l = scoped_head (core_bodies es) bodies h in
      omega (arith, loose-instantiate b m)
  rule_type_scoped s le RuleType.pair = omega arith
  rule_type_scoped s le (RuleType.local {m = m} {b = b} r) = let l = loose-instantiate b m in rule_type_scoped s (omega arith) r
  rule_type_scoped s le (RuleType.first r h) =
      let k = rule_type_scoped s le r in
      let l = scoped_head (core_bodies es) bodies h in
      omega arith
  rule_type_scoped s le (RuleType.second {b = b} {m = m} r h) =
      let k = rule_type_scoped s le r in
      let l = scoped_head (core_bodies es) bodies h in
      omega (arith, loose-instantiate b (Fst m))

pub rule_types_are_scoped : RuleTypesAreScoped
rule_types_are_scoped es types bodies w g s n m a le r = rule_type_scoped es types bodies w s le r
