-- A parallel step keeps the type.
use Rattle.std.proofs.Common.{◌≡◌, ℕ, Some, List}
use Rattle.lego_term.specs.Trees.{Term, Univ, Pi, Lam, Sigma, Pair, Fst, instantiate}
use Rattle.lego_laws.specs.Parallel.{TermBodies, AreClosed, ParallelStep, p_var, p_const, p_prop, p_univ, p_pi, p_lam, p_app, p_sigma, p_pair, p_fst, p_snd, p_beta, p_first, p_second, p_unfold, p_let, p_local}
use Rattle.lego_term.specs.Steps.{Converts}
use Rattle.lego_term.specs.Below.{Below}
use Rattle.lego_laws.specs.Derivations.{Derives, d_prop, d_univ, d_var, d_const, d_pi_prop, d_pi, d_lam, d_app, d_sigma, d_pair, d_fst, d_snd, d_let, d_cum, ValidLocals, v_local, ValidConstants}
use Rattle.lego_laws.proofs.lemmas.reduction.Subst.{one, instantiate_is}
use Rattle.lego_laws.proofs.lemmas.reduction.Parallel.{p_refl, p-instantiate}
use Rattle.lego_laws.proofs.lemmas.reduction.CommonReducts.{parallel-steps, convert_run}
use Rattle.lego_laws.proofs.lemmas.reduction.Below.{pi_inverts, sigma_inverts}
use Rattle.lego_laws.proofs.lemmas.typing.Renaming.{d-instantiate, d-narrow, below-substitute}
use Rattle.lego_laws.proofs.lemmas.typing.Inversion.{from_none, generation, type_correct}

-- a parallel step converts, in both directions
pub after : {b : TermBodies} {t u : Term} → ParallelStep b t u → Below b t u
after p = Below.converts (convert_run (parallel-steps p))

pub before : {b : TermBodies} {t u : Term} → ParallelStep b t u → Below b u t
before p = Below.converts (Converts.back (convert_run (parallel-steps p)))

module _ (c b : TermBodies) (types : AreClosed c) (bodies : AreClosed b) (valid : ValidConstants c b) where
  pub below-instantiate : {r r' : Term} (n : Term) → Below b r r' → Below b (instantiate r n) (instantiate r' n)
  below-instantiate {r} {r'} n p = rw (instantiate_is r n, instantiate_is r' n) (below-substitute b bodies (one n) p)

  -- the contracted redexes, where the parts are stepped and typed
  beta_case : {g : List Term} {a₀ m a r n n' : Term} {j : ℕ} → Derives c b g (Lam tt a₀ m) (Pi tt a r) → Derives c b g n' a → ParallelStep b n n' → Derives c b g (instantiate r n) (Univ j) → Derives c b g (instantiate m n') (instantiate r n)
  beta_case {a₀ = a₀} {a = a} {r = r} {n' = n'} d e q t =
      let h = generation d in
      let i = pi_inverts b bodies a₀ h.1 a r h.4 in
      let arg = d_cum e h.2 (Below.converts (Converts.back i.0)) in
      d_cum (d-instantiate c b types bodies h.3 arg) t (Below.chain (below-instantiate n' i.1) (before (p-instantiate b bodies (p_refl b r) q)))

  first_case : {g : List Term} {a₀ r₀ m n a r : Term} {j : ℕ} → Derives c b g (Pair tt a₀ r₀ m n) (Sigma tt a r) → Derives c b g a (Univ j) → Derives c b g m a
  first_case {a₀ = a₀} {r₀ = r₀} {a = a} {r = r} d t =
      let h = generation d in
      d_cum h.4 t (sigma_inverts b bodies a₀ r₀ a r h.6).0

  second_case : {g : List Term} {a₀ r₀ m n' a r : Term} {j : ℕ} (n : Term) → Derives c b g (Pair tt a₀ r₀ m n') (Sigma tt a r) → Derives c b g (instantiate r (Fst (Pair tt a₀ r₀ m n))) (Univ j) → Derives c b g n' (instantiate r (Fst (Pair tt a₀ r₀ m n)))
  second_case {a₀ = a₀} {r₀ = r₀} {m = m} {a = a} {r = r} n d t =
      let h = generation d in
      d_cum h.5 t (Below.chain (below-instantiate m (sigma_inverts b bodies a₀ r₀ a r h.6).1) (before (p-instantiate b bodies (p_refl b r) (p_first (p_refl b m)))))

  const_case : {g : List Term} {k : ℕ} {a t : Term} → c k ≡ Some a → b k ≡ Some t → Derives c b g t a
  const_case {g} {k} {a} {t} e f =
      let h = valid.bodies k t f in
      let same : h.0 ≡ a = cc (h.1, e) in
      from_none c b types bodies valid g (bodies k t f) (types k a e) (rw same at h.2)

  pub subject_reduction : {g : List Term} {m m' a : Term} → Derives c b g m a → ParallelStep b m m' → ValidLocals c b g → Derives c b g m' a
  unfolding instantiate
  subject_reduction d_prop p_prop v = d_prop
  subject_reduction d_univ p_univ v = d_univ
  subject_reduction (d_var l) p_var v = d_var l
  subject_reduction (d_const e) p_const v = d_const e
  subject_reduction (d_const e) (p_unfold f) v = const_case e f
  subject_reduction (d_pi_prop d e) (p_pi p q) v =
      d_pi_prop (subject_reduction d p v) (d-narrow c b types bodies (subject_reduction e q (v_local v d)) d (before p))
  subject_reduction (d_pi d e) (p_pi p q) v =
      d_pi (subject_reduction d p v) (d-narrow c b types bodies (subject_reduction e q (v_local v d)) d (before p))
  subject_reduction (d_lam {r = r} d e) (p_lam p q) v =
      d_cum (d_lam (subject_reduction d p v) (d-narrow c b types bodies (subject_reduction e q (v_local v d)) d (before p))) (type_correct c b types bodies valid (d_lam d e) v).1 (before (p_pi p (p_refl b r)))
  subject_reduction (d_app {r = r} d e) (p_app p q) v =
      d_cum (d_app (subject_reduction d p v) (subject_reduction e q v)) (type_correct c b types bodies valid (d_app d e) v).1 (before (p-instantiate b bodies (p_refl b r) q))
  subject_reduction (d_app d e) (p_beta {a = a₀} p q) v =
      beta_case (subject_reduction d (p_lam (p_refl b a₀) p) v) (subject_reduction e q v) q (type_correct c b types bodies valid (d_app d e) v).1
  subject_reduction (d_sigma d e) (p_sigma p q) v =
      d_sigma (subject_reduction d p v) (d-narrow c b types bodies (subject_reduction e q (v_local v d)) d (before p))
  subject_reduction (d_pair d e x y) (p_pair p q r s) v =
      let d' = subject_reduction d p v in
      let e' = subject_reduction e q (v_local v d) in
      let m' = subject_reduction x r v in
      let n' = d_cum (subject_reduction y s v) (d-instantiate c b types bodies e' m') (after (p-instantiate b bodies q r)) in
      d_cum (d_pair d' (d-narrow c b types bodies e' d (before p)) (d_cum m' d' (after p)) n') (type_correct c b types bodies valid (d_pair d e x y) v).1 (before (p_sigma p q))
  subject_reduction (d_fst d) (p_fst p) v = d_fst (subject_reduction d p v)
  subject_reduction (d_fst d) (p_first {a = a₀} {c = r₀} {n = n} p) v =
      first_case (subject_reduction d (p_pair (p_refl b a₀) (p_refl b r₀) p (p_refl b n)) v) (type_correct c b types bodies valid (d_fst d) v).1
  subject_reduction (d_snd {r = r} d) (p_snd p) v =
      d_cum (d_snd (subject_reduction d p v)) (type_correct c b types bodies valid (d_snd d) v).1 (before (p-instantiate b bodies (p_refl b r) (p_fst p)))
  subject_reduction (d_snd d) (p_second {a = a₀} {c = r₀} {m = m} {n = n₀} p) v =
      second_case n₀ (subject_reduction d (p_pair (p_refl b a₀) (p_refl b r₀) (p_refl b m) p) v) (type_correct c b types bodies valid (d_snd d) v).1
  subject_reduction (d_let d e) (p_let p q) v = d_let (subject_reduction d p v) (subject_reduction e (p-instantiate b bodies q p) v)
  subject_reduction (d_let d e) (p_local p q) v = subject_reduction e (p-instantiate b bodies q p) v
  subject_reduction (d_cum d e l) p v = d_cum (subject_reduction d p v) e l
