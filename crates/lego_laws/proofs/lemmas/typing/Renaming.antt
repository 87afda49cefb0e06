-- Typing under renamings and substitutions.
use Rattle.std.proofs.Common.{◌≡◌, ℕ, zero, suc, List, ◌∷◌, sym, ap, ◌∙◌}
use Rattle.lego_term.specs.Trees.{Term, Var, Univ, instantiate, lift}
use Rattle.lego_laws.specs.Parallel.{TermBodies, AreClosed}
use Rattle.lego_term.specs.Below.{Below}
use Rattle.lego_laws.specs.Derivations.{HasLocal, Derives, d_prop, d_univ, d_var, d_const, d_pi_prop, d_pi, d_lam, d_app, d_sigma, d_pair, d_fst, d_snd, d_let, d_cum}
use Rattle.lego_laws.proofs.lemmas.reduction.Subst.{lift_one, rename, up_ren, substitute, up, one, rename_is, rename-rename, substitute_var, substitute-rename, rename-substitute, substitute-instantiate, instantiate_is}
use Rattle.lego_laws.proofs.lemmas.reduction.Substituted.{convert-substitute}
use Rattle.lego_laws.proofs.lemmas.reduction.Parallel.{closed_rename, closed_substitute, rename-instantiate}

module _ (b : TermBodies) (closed : AreClosed b) where
  pub below-substitute : (s : ℕ → Term) {t u : Term} → Below b t u → Below b (substitute s t) (substitute s u)
  below-substitute s (Below.converts p) = Below.converts (convert-substitute b closed s p)
  below-substitute s Below.prop = Below.prop
  below-substitute s Below.universe = Below.universe
  below-substitute s (Below.pi p q) = Below.pi (convert-substitute b closed s p) (below-substitute (up s) q)
  below-substitute s (Below.sigma p q) = Below.sigma (below-substitute s p) (below-substitute (up s) q)
  below-substitute s (Below.chain p q) = Below.chain (below-substitute s p) (below-substitute s q)

  pub below-rename : (f : ℕ → ℕ) {t u : Term} → Below b t u → Below b (rename f t) (rename f u)
  below-rename f {t} {u} p = rw (rename_is f t, rename_is f u) (below-substitute (λ i. Var (f i)) p)

-- the variables of one list stand in another under a renaming
abbrev pub Renames : (ℕ → ℕ) → List Term → List Term → Type 0
Renames f g h = (i : ℕ) (a : Term) → HasLocal g i a → HasLocal h (f i) (rename f a)

pub lift-rename : (f : ℕ → ℕ) (t : Term) → rename (up_ren f) (lift 0 1 t) ≡ lift 0 1 (rename f t)
lift-rename f t =
    ap (rename (up_ren f)) (lift_one t) ∙ rename-rename (up_ren f) suc t ∙ sym (rename-rename suc f t) ∙ sym (lift_one (rename f t))

pub lift-substitute : (s : ℕ → Term) (t : Term) → substitute (up s) (lift 0 1 t) ≡ lift 0 1 (substitute s t)
lift-substitute s t =
    ap (substitute (up s)) (lift_one t) ∙ substitute-rename (up s) suc t ∙ sym (rename-substitute suc s t) ∙ sym (lift_one (substitute s t))

renames_up : (f : ℕ → ℕ) (g h : List Term) (a : Term) → Renames f g h → Renames (up_ren f) (a ∷ g) (rename f a ∷ h)
renames_up f g h a r zero _ HasLocal.here = rw (lift-rename f a) HasLocal.here
renames_up f g h a r (suc i) _ (HasLocal.there {t = t} l) = rw (lift-rename f t) (HasLocal.there (r i t l))

module _ (c b : TermBodies) (types : AreClosed c) (bodies : AreClosed b) where
  pub d-rename : (f : ℕ → ℕ) {g : List Term} {m a : Term} → Derives c b g m a → (h : List Term) → Renames f g h → Derives c b h (rename f m) (rename f a)
  d-rename f d_prop h r = d_prop
  d-rename f d_univ h r = d_univ
  d-rename f (d_var {i = i} {a = a} l) h r = d_var (r i a l)
  d-rename f (d_const {k = k} {a = a} e) h r = rw (closed_rename f a (types k a e)) (d_const e)
  d-rename f (d_pi_prop {g = g} {a = a} p q) h r = d_pi_prop (d-rename f p h r) (d-rename (up_ren f) q (rename f a ∷ h) (renames_up f g h a r))
  d-rename f (d_pi {g = g} {a = a} p q) h r = d_pi (d-rename f p h r) (d-rename (up_ren f) q (rename f a ∷ h) (renames_up f g h a r))
  d-rename f (d_lam {g = g} {a = a} p q) h r = d_lam (d-rename f p h r) (d-rename (up_ren f) q (rename f a ∷ h) (renames_up f g h a r))
  d-rename f (d_app p q) h r = rw rename-instantiate (d_app (d-rename f p h r) (d-rename f q h r))
  d-rename f (d_sigma {g = g} {a = a} p q) h r = d_sigma (d-rename f p h r) (d-rename (up_ren f) q (rename f a ∷ h) (renames_up f g h a r))
  d-rename f (d_pair {g = g} {a = a} {r = c'} {m = m} p q s t) h r =
      d_pair (d-rename f p h r) (d-rename (up_ren f) q (rename f a ∷ h) (renames_up f g h a r)) (d-rename f s h r) (rw (← rename-instantiate f c' m) (d-rename f t h r))
  d-rename f (d_fst p) h r = d_fst (d-rename f p h r)
  d-rename f (d_snd p) h r = rw rename-instantiate (d_snd (d-rename f p h r))
  d-rename f (d_let {m = m} {n = n} p q) h r = d_let (d-rename f p h r) (rw (← rename-instantiate f n m) (d-rename f q h r))
  d-rename f (d_cum p q l) h r = d_cum (d-rename f p h r) (d-rename f q h r) (below-rename b bodies f l)

  -- the terms of a substitution have the types of the variables
  abbrev pub Substitutes : (ℕ → Term) → List Term → List Term → Type 0
  Substitutes s g h = (i : ℕ) (a : Term) → HasLocal g i a → Derives c b h (s i) (substitute s a)

  pub d-thin : {g : List Term} {m a : Term} → Derives c b g m a → (t : Term) → Derives c b (t ∷ g) (lift 0 1 m) (lift 0 1 a)
  d-thin {g} {m} {a} d t = rw (lift_one m, lift_one a) (d-rename suc d (t ∷ g) (λ i x l. rw (← lift_one x) (HasLocal.there l)))

  substitutes_up : (s : ℕ → Term) (g h : List Term) (a : Term) → Substitutes s g h → Substitutes (up s) (a ∷ g) (substitute s a ∷ h)
  substitutes_up s g h a r zero _ HasLocal.here = rw (lift-substitute s a) (d_var HasLocal.here)
  substitutes_up s g h a r (suc i) _ (HasLocal.there {t = t} l) = rw (lift-substitute s t, ← lift_one (s i)) (d-thin (r i t l) (substitute s a))

  pub d-substitute : (s : ℕ → Term) {g : List Term} {m a : Term} → Derives c b g m a → (h : List Term) → Substitutes s g h → Derives c b h (substitute s m) (substitute s a)
  d-substitute s d_prop h r = d_prop
  d-substitute s d_univ h r = d_univ
  d-substitute s (d_var {i = i} {a = a} l) h r = r i a l
  d-substitute s (d_const {k = k} {a = a} e) h r = rw (closed_substitute s a (types k a e)) (d_const e)
  d-substitute s (d_pi_prop {g = g} {a = a} p q) h r = d_pi_prop (d-substitute s p h r) (d-substitute (up s) q (substitute s a ∷ h) (substitutes_up s g h a r))
  d-substitute s (d_pi {g = g} {a = a} p q) h r = d_pi (d-substitute s p h r) (d-substitute (up s) q (substitute s a ∷ h) (substitutes_up s g h a r))
  d-substitute s (d_lam {g = g} {a = a} p q) h r = d_lam (d-substitute s p h r) (d-substitute (up s) q (substitute s a ∷ h) (substitutes_up s g h a r))
  d-substitute s (d_app p q) h r = rw substitute-instantiate (d_app (d-substitute s p h r) (d-substitute s q h r))
  d-substitute s (d_sigma {g = g} {a = a} p q) h r = d_sigma (d-substitute s p h r) (d-substitute (up s) q (substitute s a ∷ h) (substitutes_up s g h a r))
  d-substitute s (d_pair {g = g} {a = a} {r = c'} {m = m} p q t u) h r =
      d_pair (d-substitute s p h r) (d-substitute (up s) q (substitute s a ∷ h) (substitutes_up s g h a r)) (d-substitute s t h r) (rw (← substitute-instantiate s c' m) (d-substitute s u h r))
  d-substitute s (d_fst p) h r = d_fst (d-substitute s p h r)
  d-substitute s (d_snd p) h r = rw substitute-instantiate (d_snd (d-substitute s p h r))
  d-substitute s (d_let {m = m} {n = n} p q) h r = d_let (d-substitute s p h r) (rw (← substitute-instantiate s n m) (d-substitute s q h r))
  d-substitute s (d_cum p q l) h r = d_cum (d-substitute s p h r) (d-substitute s q h r) (below-substitute b bodies s l)

  -- one term for the innermost variable
  one_substitutes : {g : List Term} {n a : Term} → Derives c b g n a → Substitutes (one n) (a ∷ g) g
  one_substitutes {n = n} {a = a} d zero _ HasLocal.here = rw (lift_one a, substitute-rename (one n) suc a, substitute_var a) d
  one_substitutes {n = n} d (suc i) _ (HasLocal.there {t = t} l) = rw (lift_one t, substitute-rename (one n) suc t, substitute_var t) (d_var l)

  pub d-instantiate : {g : List Term} {m n a r : Term} → Derives c b (a ∷ g) m r → Derives c b g n a → Derives c b g (instantiate m n) (instantiate r n)
  d-instantiate {g} {m} {n} {a} {r} d e = rw (instantiate_is m n, instantiate_is r n) (d-substitute (one n) d g (one_substitutes e))

  narrows : {g : List Term} {a a' : Term} → Derives c b (a' ∷ g) (Var zero) (lift 0 1 a) → Substitutes Var (a ∷ g) (a' ∷ g)
  narrows {a = a} d zero _ HasLocal.here = rw (substitute_var (lift 0 1 a)) d
  narrows d (suc i) _ (HasLocal.there {t = t} l) = rw (substitute_var (lift 0 1 t)) (d_var (HasLocal.there l))

  -- a local type for one above it
  pub d-narrow : {g : List Term} {a a' m r : Term} {j : ℕ} → Derives c b (a ∷ g) m r → Derives c b g a (Univ j) → Below b a' a → Derives c b (a' ∷ g) m r
  d-narrow {g} {a} {a'} {m} {r} {j} d e l =
      let first : Derives c b (a' ∷ g) (Var zero) (lift 0 1 a) = d_cum (d_var HasLocal.here) (d-thin e a') (rw (lift_one a', lift_one a) (below-rename b bodies suc l)) in
      let all : Substitutes Var (a ∷ g) (a' ∷ g) = narrows {a = a} first in
      rw (substitute_var m, substitute_var r) at (d-substitute Var d (a' ∷ g) all)
