-- A derivation where constants are replaced by closed terms.
use Rattle.std.proofs.Common.{◌≡◌, ℕ, suc, ◌≤◌, Option, Some, None, List, [], map, unwrap_or, refl, sym, ap, ap₂, ◌∙◌, arith}
use Rattle.lego_term.specs.Trees.{Term, Var, Const, Prop, Univ, Pi, Lam, App, Sigma, Pair, Fst, Snd, lift, put, put_var, instantiate, loose, replace_constants, Let}
use Rattle.lego_term.specs.Steps.{Step, Contracts, Converts}
use Rattle.lego_term.specs.Below.{Below}
use Rattle.lego_laws.specs.Parallel.{TermBodies, AreClosed}
use Rattle.lego_laws.specs.Derivations.{HasLocal, Derives, d_prop, d_univ, d_var, d_const, d_pi_prop, d_pi, d_lam, d_app, d_sigma, d_pair, d_fst, d_snd, d_let, d_cum, ValidLocals, v_none, v_local}
use Rattle.lego_laws.specs.Translation.{standing}
use Rattle.lego_laws.proofs.lemmas.reduction.Subst.{lift_is, raise, put_is, one_at}
use Rattle.lego_laws.proofs.lemmas.reduction.Parallel.{closed_rename, closed_substitute}
use Rattle.lego_laws.proofs.lemmas.typing.Renaming.{d-rename}
use Rattle.lego_laws.proofs.lemmas.reduction.CommonReducts.{convert_map}

-- what stands for the constants has their replaced types, and converts with their replaced bodies
pub record Translates (s c b c' b' : TermBodies) : Type 0 where
  pub closed : AreClosed s
  pub typed : (k : ℕ) (a : Term) → c k ≡ Some a → Derives c' b' [] (standing s k) (replace_constants s a)
  pub converts : (k : ℕ) (t : Term) → b k ≡ Some t → Converts b' (standing s k) (replace_constants s t)

closed_option : (k : ℕ) (o : Option Term) → ((t : Term) → o ≡ Some t → loose t ≡ 0) → loose (unwrap_or o (Const k)) ≡ 0
closed_option k None h = refl
closed_option k (Some t) h = h t refl

pub standing_closed : (s : TermBodies) → AreClosed s → (k : ℕ) → loose (standing s k) ≡ 0
standing_closed s closed k = closed_option k (s k) (closed k)

closed_lift : (from by : ℕ) (t : Term) → loose t ≡ 0 → lift from by t ≡ t
closed_lift from by t e = lift_is from by t ∙ closed_rename (raise from by) t e

closed_put : (depth : ℕ) (n t : Term) → loose t ≡ 0 → put depth n t ≡ t
closed_put depth n t e = put_is depth n t ∙ closed_substitute (one_at depth n) t e

module _ (s : TermBodies) (closed : (k : ℕ) → loose (standing s k) ≡ 0) where
  pub replace_constants-lift : (from by : ℕ) (t : Term) → replace_constants s (lift from by t) ≡ lift from by (replace_constants s t)
  replace_constants-lift from by (Var i) = refl
  replace_constants-lift from by (Const k) = sym (closed_lift from by (standing s k) (closed k))
  replace_constants-lift from by Prop = refl
  replace_constants-lift from by (Univ l) = refl
  replace_constants-lift from by (Pi tt a r) = ap₂ (Pi tt) (replace_constants-lift from by a) (replace_constants-lift (suc from) by r)
  replace_constants-lift from by (Lam tt a m) = ap₂ (Lam tt) (replace_constants-lift from by a) (replace_constants-lift (suc from) by m)
  replace_constants-lift from by (Sigma tt a r) = ap₂ (Sigma tt) (replace_constants-lift from by a) (replace_constants-lift (suc from) by r)
  replace_constants-lift from by (Let tt a r) = ap₂ (Let tt) (replace_constants-lift from by a) (replace_constants-lift (suc from) by r)
  replace_constants-lift from by (App tt m n) = ap₂ (App tt) (replace_constants-lift from by m) (replace_constants-lift from by n)
  replace_constants-lift from by (Pair tt a r m n) = cc (replace_constants-lift from by a, replace_constants-lift (suc from) by r, replace_constants-lift from by m, replace_constants-lift from by n)
  replace_constants-lift from by (Fst m) = ap Fst (replace_constants-lift from by m)
  replace_constants-lift from by (Snd m) = ap Snd (replace_constants-lift from by m)

  replace_constants-put_var : (depth i : ℕ) (n : Term) → replace_constants s (put_var depth n i) ≡ put_var depth (replace_constants s n) i
  replace_constants-put_var depth i n = grind (arith, replace_constants-lift)

  pub replace_constants-put : (depth : ℕ) (y t : Term) → replace_constants s (put depth y t) ≡ put depth (replace_constants s y) (replace_constants s t)
  replace_constants-put depth y (Var i) = replace_constants-put_var depth i y
  replace_constants-put depth y (Const k) = sym (closed_put depth (replace_constants s y) (standing s k) (closed k))
  replace_constants-put depth y Prop = refl
  replace_constants-put depth y (Univ l) = refl
  replace_constants-put depth y (Pi tt a r) = ap₂ (Pi tt) (replace_constants-put depth y a) (replace_constants-put (suc depth) y r)
  replace_constants-put depth y (Lam tt a m) = ap₂ (Lam tt) (replace_constants-put depth y a) (replace_constants-put (suc depth) y m)
  replace_constants-put depth y (Sigma tt a r) = ap₂ (Sigma tt) (replace_constants-put depth y a) (replace_constants-put (suc depth) y r)
  replace_constants-put depth y (Let tt a r) = ap₂ (Let tt) (replace_constants-put depth y a) (replace_constants-put (suc depth) y r)
  replace_constants-put depth y (App tt m n) = ap₂ (App tt) (replace_constants-put depth y m) (replace_constants-put depth y n)
  replace_constants-put depth y (Pair tt a r m n) = cc (replace_constants-put depth y a, replace_constants-put (suc depth) y r, replace_constants-put depth y m, replace_constants-put depth y n)
  replace_constants-put depth y (Fst m) = ap Fst (replace_constants-put depth y m)
  replace_constants-put depth y (Snd m) = ap Snd (replace_constants-put depth y m)

  pub replace_constants-instantiate : (m n : Term) → replace_constants s (instantiate m n) ≡ instantiate (replace_constants s m) (replace_constants s n)
  unfolding instantiate
  replace_constants-instantiate m n = replace_constants-put 0 n m

module _ (s c b c' b' : TermBodies) (tc : AreClosed c) (bc : AreClosed b) (tc' : AreClosed c') (bc' : AreClosed b') (x : Translates s c b c' b') where
  t-step : {t u : Term} → Step b t u → Converts b' (replace_constants s t) (replace_constants s u)
  t-step (Step.here (Contracts.beta {m = m} {n = n})) = rw (replace_constants-instantiate s (standing_closed s x.closed) m n) (Converts.step (Step.here Contracts.beta))
  t-step (Step.here Contracts.first) = Converts.step (Step.here Contracts.first)
  t-step (Step.here Contracts.second) = Converts.step (Step.here Contracts.second)
  t-step (Step.here (Contracts.local {m = m} {n = n})) = rw (replace_constants-instantiate s (standing_closed s x.closed) n m) (Converts.step (Step.here Contracts.local))
  t-step (Step.here (Contracts.unfolds {k = k} {m = t} e)) = x.converts k t e
  t-step (Step.pi_domain {b = y} p) = convert_map (λ z. Pi tt z (replace_constants s y)) (λ _ _ q. Step.pi_domain q) (t-step p)
  t-step (Step.pi_body {a = y} p) = convert_map (Pi tt (replace_constants s y)) (λ _ _ q. Step.pi_body q) (t-step p)
  t-step (Step.lam_domain {m = y} p) = convert_map (λ z. Lam tt z (replace_constants s y)) (λ _ _ q. Step.lam_domain q) (t-step p)
  t-step (Step.lam_body {a = y} p) = convert_map (Lam tt (replace_constants s y)) (λ _ _ q. Step.lam_body q) (t-step p)
  t-step (Step.function {n = y} p) = convert_map (λ z. App tt z (replace_constants s y)) (λ _ _ q. Step.function q) (t-step p)
  t-step (Step.argument {m = y} p) = convert_map (App tt (replace_constants s y)) (λ _ _ q. Step.argument q) (t-step p)
  t-step (Step.sigma_domain {b = y} p) = convert_map (λ z. Sigma tt z (replace_constants s y)) (λ _ _ q. Step.sigma_domain q) (t-step p)
  t-step (Step.local_value {n = y} p) = convert_map (λ z. Let tt z (replace_constants s y)) (λ _ _ q. Step.local_value q) (t-step p)
  t-step (Step.sigma_body {a = y} p) = convert_map (Sigma tt (replace_constants s y)) (λ _ _ q. Step.sigma_body q) (t-step p)
  t-step (Step.local_body {m = y} p) = convert_map (Let tt (replace_constants s y)) (λ _ _ q. Step.local_body q) (t-step p)
  t-step (Step.pair_domain {b = w2} {m = w3} {n = w4} p) = convert_map (λ z. Pair tt z (replace_constants s w2) (replace_constants s w3) (replace_constants s w4)) (λ _ _ q. Step.pair_domain q) (t-step p)
  t-step (Step.pair_body {a = w1} {m = w3} {n = w4} p) = convert_map (λ z. Pair tt (replace_constants s w1) z (replace_constants s w3) (replace_constants s w4)) (λ _ _ q. Step.pair_body q) (t-step p)
  t-step (Step.pair_first {a = w1} {b = w2} {n = w4} p) = convert_map (λ z. Pair tt (replace_constants s w1) (replace_constants s w2) z (replace_constants s w4)) (λ _ _ q. Step.pair_first q) (t-step p)
  t-step (Step.pair_second {a = w1} {b = w2} {m = w3} p) = convert_map (λ z. Pair tt (replace_constants s w1) (replace_constants s w2) (replace_constants s w3) z) (λ _ _ q. Step.pair_second q) (t-step p)
  t-step (Step.fst_operand p) = convert_map Fst (λ _ _ q. Step.fst_operand q) (t-step p)
  t-step (Step.snd_operand p) = convert_map Snd (λ _ _ q. Step.snd_operand q) (t-step p)

  t-convert : {t u : Term} → Converts b t u → Converts b' (replace_constants s t) (replace_constants s u)
  t-convert (Converts.step p) = t-step p
  t-convert Converts.same = Converts.same
  t-convert (Converts.back p) = Converts.back (t-convert p)
  t-convert (Converts.chain p q) = Converts.chain (t-convert p) (t-convert q)

  t-below : {t u : Term} → Below b t u → Below b' (replace_constants s t) (replace_constants s u)
  t-below (Below.converts p) = Below.converts (t-convert p)
  t-below Below.prop = Below.prop
  t-below Below.universe = Below.universe
  t-below (Below.pi p q) = Below.pi (t-convert p) (t-below q)
  t-below (Below.sigma p q) = Below.sigma (t-below p) (t-below q)
  t-below (Below.chain p q) = Below.chain (t-below p) (t-below q)

  t-local : {g : List Term} {i : ℕ} {a : Term} → HasLocal g i a → HasLocal (map (replace_constants s) g) i (replace_constants s a)
  t-local (HasLocal.here {a = a}) = rw (replace_constants-lift s (standing_closed s x.closed) 0 1 a) HasLocal.here
  t-local (HasLocal.there {t = t} l) = rw (replace_constants-lift s (standing_closed s x.closed) 0 1 t) (HasLocal.there (t-local l))

  t-const : (g : List Term) (k : ℕ) (a : Term) → loose (replace_constants s a) ≡ 0 → Derives c' b' [] (standing s k) (replace_constants s a) → Derives c' b' g (standing s k) (replace_constants s a)
  t-const g k a e d =
      rw (closed_rename (λ i. i) (standing s k) ((standing_closed s x.closed) k), closed_rename (λ i. i) (replace_constants s a) e) at (d-rename c' b' tc' bc' (λ i. i) d g (λ i y l. elim l [ ]))

  pub loose-replace_constants : (t : Term) → loose (replace_constants s t) ≤ loose t
  loose-replace_constants (Var i) = omega arith
  loose-replace_constants (Const k) = omega (arith, (standing_closed s x.closed) k)
  loose-replace_constants Prop = omega arith
  loose-replace_constants (Univ l) = omega arith
  loose-replace_constants (Pi tt a r) = omega (arith, loose-replace_constants a, loose-replace_constants r)
  loose-replace_constants (Lam tt a m) = omega (arith, loose-replace_constants a, loose-replace_constants m)
  loose-replace_constants (App tt m n) = omega (arith, loose-replace_constants m, loose-replace_constants n)
  loose-replace_constants (Sigma tt a r) = omega (arith, loose-replace_constants a, loose-replace_constants r)
  loose-replace_constants (Let tt a r) = omega (arith, loose-replace_constants a, loose-replace_constants r)
  loose-replace_constants (Pair tt a r m n) = omega (arith, loose-replace_constants a, loose-replace_constants r, loose-replace_constants m, loose-replace_constants n)
  loose-replace_constants (Fst m) = loose-replace_constants m
  loose-replace_constants (Snd m) = loose-replace_constants m

  pub t-derives : {g : List Term} {m a : Term} → Derives c b g m a → Derives c' b' (map (replace_constants s) g) (replace_constants s m) (replace_constants s a)
  t-derives d_prop = d_prop
  t-derives d_univ = d_univ
  t-derives (d_var l) = d_var (t-local l)
  t-derives (d_const {g = g} {k = k} {a = a} e) = t-const (map (replace_constants s) g) k a (omega (arith, loose-replace_constants a, tc k a e)) (x.typed k a e)
  t-derives (d_pi_prop d e) = d_pi_prop (t-derives d) (t-derives e)
  t-derives (d_pi d e) = d_pi (t-derives d) (t-derives e)
  t-derives (d_lam d e) = d_lam (t-derives d) (t-derives e)
  t-derives (d_app {r = r} {n = n} d e) = rw (replace_constants-instantiate s (standing_closed s x.closed) r n) (d_app (t-derives d) (t-derives e))
  t-derives (d_sigma d e) = d_sigma (t-derives d) (t-derives e)
  t-derives (d_pair {r = r} {m = m} d e p q) = d_pair (t-derives d) (t-derives e) (t-derives p) (rw (← replace_constants-instantiate s (standing_closed s x.closed) r m) (t-derives q))
  t-derives (d_fst d) = d_fst (t-derives d)
  t-derives (d_snd {r = r} {m = m} d) = rw (replace_constants-instantiate s (standing_closed s x.closed) r (Fst m)) (d_snd (t-derives d))
  t-derives (d_let {m = m} {n = n} d e) = d_let (t-derives d) (rw (← replace_constants-instantiate s (standing_closed s x.closed) n m) (t-derives e))
  t-derives (d_cum d e l) = d_cum (t-derives d) (t-derives e) (t-below l)

  pub t-locals : {g : List Term} → ValidLocals c b g → ValidLocals c' b' (map (replace_constants s) g)
  t-locals v_none = v_none
  t-locals (v_local v d) = v_local (t-locals v) (t-derives d)
