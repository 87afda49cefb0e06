-- Generation, and type correctness.
use Rattle.std.proofs.Common.{◌≡◌, ℕ, suc, ◌+◌, ◌≤◌, List, [], ◌∷◌, refl, arith, inl, inr}
use Rattle.lego_term.specs.Trees.{Term, Var, Const, Prop, Univ, Pi, Lam, App, Sigma, Pair, Fst, Snd, instantiate, loose, Let}
use Rattle.lego_laws.specs.Parallel.{TermBodies, AreClosed}
use Rattle.lego_term.specs.Steps.{Converts}
use Rattle.lego_term.specs.Below.{Below}
use Rattle.lego_laws.specs.Derivations.{HasLocal, Derives, d_prop, d_univ, d_var, d_const, d_pi_prop, d_pi, d_lam, d_app, d_sigma, d_pair, d_fst, d_snd, d_let, d_cum, Generated, ValidLocals, v_none, v_local, ValidConstants}
use Rattle.lego_laws.specs.Cumulativity.{ByForm}
use Rattle.lego_laws.proofs.lemmas.reduction.Below.{under-below}
use Rattle.lego_laws.proofs.lemmas.reduction.Parallel.{closed_rename}
use Rattle.lego_laws.proofs.lemmas.typing.Renaming.{d-rename, d-thin, d-instantiate}

pub at : {b : TermBodies} {t : Term} → Below b t t
at = Below.converts Converts.same

raised : (c b : TermBodies) (g : List Term) (m : Term) (t u : Term) → Generated c b g m t → Below b t u → Generated c b g m u
raised c b g (Var i) _ _ (a, l, p) q = (a, l, Below.chain p q)
raised c b g (Const k) _ _ (a, l, p) q = (a, l, Below.chain p q)
raised c b g Prop _ _ p q = Below.chain p q
raised c b g (Univ l) _ _ p q = Below.chain p q
raised c b g (Pi _ a r) _ _ (j, d, inl (e, p)) q = (j, d, inl (e, Below.chain p q))
raised c b g (Pi _ a r) _ _ (j, d, inr (e, p)) q = (j, d, inr (e, Below.chain p q))
raised c b g (Lam _ a m) _ _ (j, r, d, e, p) q = (j, r, d, e, Below.chain p q)
raised c b g (App _ m n) _ _ (a, r, d, e, p) q = (a, r, d, e, Below.chain p q)
raised c b g (Sigma _ a r) _ _ (j, d, e, p) q = (j, d, e, Below.chain p q)
raised c b g (Pair _ a r m n) _ _ (i, j, d, e, x, y, p) q = (i, j, d, e, x, y, Below.chain p q)
raised c b g (Fst m) _ _ (a, r, d, p) q = (a, r, d, Below.chain p q)
raised c b g (Snd m) _ _ (a, r, d, p) q = (a, r, d, Below.chain p q)
raised c b g (Let _ m n) _ _ (a, r, d, e, p) q = (a, r, d, e, Below.chain p q)

pub generation : {c b : TermBodies} {g : List Term} {m t : Term} → Derives c b g m t → Generated c b g m t
generation d_prop = at
generation d_univ = at
generation (d_var {a = a} l) = (a, l, at)
generation (d_const {a = a} e) = (a, e, at)
generation (d_pi_prop {j = j} d e) = (j, d, inl (e, at))
generation (d_pi {j = j} d e) = (j, d, inr (e, at))
generation (d_lam {r = r} {j = j} d e) = (j, r, d, e, at)
generation (d_app {a = a} {r = r} d e) = (a, r, d, e, at)
generation (d_sigma {j = j} d e) = (j, d, e, at)
generation (d_pair {i = i} {j = j} d e x y) = (i, j, d, e, x, y, at)
generation (d_fst {a = a} {r = r} d) = (a, r, d, at)
generation (d_snd {a = a} {r = r} d) = (a, r, d, at)
generation (d_let {a = a} {q = q} d e) = (a, q, d, e, at)
generation {c = c} {b = b} (d_cum {g = g} {m = m} d e l) = raised c b g m _ _ (generation d) l

module _ (c b : TermBodies) (types : AreClosed c) (bodies : AreClosed b) (valid : ValidConstants c b) where
  -- what stands over no local stands over each list
  pub from_none : (g : List Term) {m a : Term} → loose m ≡ 0 → loose a ≡ 0 → Derives c b [] m a → Derives c b g m a
  from_none g {m} {a} em ea d =
      rw (closed_rename (λ i. i) m em, closed_rename (λ i. i) a ea) at (d-rename c b types bodies (λ i. i) d g (λ i x l. elim l [ ]))

  local_type : {g : List Term} {i : ℕ} {a : Term} → ValidLocals c b g → HasLocal g i a → (j : ℕ) × Derives c b g a (Univ j)
  local_type v_none l = elim l [ ]
  local_type (v_local {a = a} {j = j} v d) HasLocal.here = (j, d-thin c b types bodies d a)
  local_type (v_local {a = a} v d) (HasLocal.there l) = let h = local_type v l in (h.0, d-thin c b types bodies h.1 a)

  pub climbs : {g : List Term} {a : Term} {j : ℕ} (k : ℕ) → j ≤ k → Derives c b g a (Univ j) → Derives c b g a (Univ k)
  climbs k le d = d_cum d d_univ (under-below (ByForm.universes le))

  pub pi_codomain : {g : List Term} {a r t : Term} → Generated c b g (Pi tt a r) t → (j : ℕ) × Derives c b (a ∷ g) r (Univ j)
  pi_codomain (j, d, inl (e, p)) = (0, d_cum e d_univ Below.prop)
  pi_codomain (j, d, inr (e, p)) = (j, e)

  pub type_correct : {g : List Term} {m a : Term} → Derives c b g m a → ValidLocals c b g → (j : ℕ) × Derives c b g a (Univ j)
  unfolding instantiate
  type_correct d_prop v = (1, d_univ)
  type_correct (d_univ {j = j}) v = (suc (suc j), d_univ)
  type_correct (d_var l) v = local_type v l
  type_correct (d_const {g = g} {k = k} {a = a} e) v = let h = valid.types k a e in (h.0, from_none g (types k a e) refl h.1)
  type_correct (d_pi_prop d e) v = (0, d_prop)
  type_correct (d_pi {j = j} d e) v = (suc j, d_univ)
  type_correct (d_lam {j = j} d e) v =
      let h = type_correct e (v_local v d) in
      (j + h.0, d_pi (climbs (j + h.0) (omega arith) d) (climbs (j + h.0) (omega arith) h.1))
  type_correct (d_app {g = g} {a = a} {r = r} {n = n} d e) v =
      let h = type_correct d v in
      let p = pi_codomain {t = Univ h.0} (generation h.1) in
      (p.0, d-instantiate c b types bodies p.1 e)
  type_correct (d_sigma {j = j} d e) v = (suc j, d_univ)
  type_correct (d_pair {i = i} {j = j} d e x y) v = (i + j, d_sigma (climbs (i + j) (omega arith) d) (climbs (i + j) (omega arith) e))
  type_correct (d_fst d) v = let h = generation (type_correct d v).1 in (h.0, h.1)
  type_correct (d_snd d) v = let h = generation (type_correct d v).1 in (h.0, d-instantiate c b types bodies h.2 (d_fst d))
  type_correct (d_let d e) v = type_correct e v
  type_correct (d_cum {j = j} d e l) v = (j, e)
