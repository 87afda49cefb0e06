-- A derivation under a replacement of the constants.
use Rattle.std.proofs.Common.{◌≡◌, ℕ, zero, suc, Some, List, [], ◌∷◌, refl, sym, ap, ap₂, ◌∙◌}
use mathlib.Core.Path.{fun_ext}
use Rattle.lego_term.specs.Trees.{Term, Var, Const, Prop, Univ, Pi, Lam, App, Sigma, Pair, Fst, Snd, lift, instantiate, loose, Let}
use Rattle.lego_laws.specs.Parallel.{TermBodies, AreClosed}
use Rattle.lego_term.specs.Steps.{Step, Contracts, Converts}
use Rattle.lego_term.specs.Below.{Below}
use Rattle.lego_laws.specs.Derivations.{HasLocal, Derives, d_prop, d_univ, d_var, d_const, d_pi_prop, d_pi, d_lam, d_app, d_sigma, d_pair, d_fst, d_snd, d_let, d_cum}
use Rattle.lego_laws.specs.Replacement.{raised, replace, under_locals, replaced_locals}
use Rattle.lego_laws.proofs.lemmas.reduction.Subst.{rename, up_ren, substitute, up, one, rename_is, rename-rename, substitute-rename, rename-substitute, substitute_var, instantiate_is, lift_one}
use Rattle.lego_laws.proofs.lemmas.reduction.Parallel.{closed_rename}
use Rattle.lego_laws.proofs.lemmas.typing.Renaming.{d-thin}
use Rattle.lego_laws.proofs.lemmas.reduction.Substituted.{convert-substitute}
use Rattle.lego_laws.proofs.lemmas.reduction.CommonReducts.{convert_map}

-- the replacing terms, renamed, and raised
raised-rename : (f : ℕ → ℕ) (s : ℕ → Term) → (λ k. rename (up_ren f) (raised s k)) ≡ raised (λ k. rename f (s k))
raised-rename f s =
    fun_ext (λ k. ap (rename (up_ren f)) (lift_one (s k)) ∙ rename-rename (up_ren f) suc (s k) ∙ sym (rename-rename suc f (s k)) ∙ sym (lift_one (rename f (s k))))

pub replace-rename : (f : ℕ → ℕ) (s : ℕ → Term) (t : Term) → replace (λ k. rename f (s k)) (rename f t) ≡ rename f (replace s t)
replace-rename f s (Var i) = refl
replace-rename f s (Const k) = refl
replace-rename f s Prop = refl
replace-rename f s (Univ l) = refl
replace-rename f s (Pi tt a r) = cc (replace-rename f s a, replace-rename (up_ren f) (raised s) r, raised-rename f s)
replace-rename f s (Lam tt a m) = cc (replace-rename f s a, replace-rename (up_ren f) (raised s) m, raised-rename f s)
replace-rename f s (Sigma tt a r) = cc (replace-rename f s a, replace-rename (up_ren f) (raised s) r, raised-rename f s)
replace-rename f s (Let tt a r) = cc (replace-rename f s a, replace-rename (up_ren f) (raised s) r, raised-rename f s)
replace-rename f s (App tt m n) = ap₂ (App tt) (replace-rename f s m) (replace-rename f s n)
replace-rename f s (Pair tt a r m n) = cc (replace-rename f s a, replace-rename (up_ren f) (raised s) r, replace-rename f s m, replace-rename f s n, raised-rename f s)
replace-rename f s (Fst m) = ap Fst (replace-rename f s m)
replace-rename f s (Snd m) = ap Snd (replace-rename f s m)

pub replace-lift : (s : ℕ → Term) (t : Term) → replace (raised s) (lift 0 1 t) ≡ lift 0 1 (replace s t)
replace-lift s t =
    let e : (λ k. rename suc (s k)) ≡ raised s = fun_ext (λ k. sym (lift_one (s k))) in
    ap (replace (raised s)) (lift_one t) ∙ ap (λ z. replace z (rename suc t)) (sym e) ∙ replace-rename suc s t ∙ sym (lift_one (replace s t))

replace-up : (s r : ℕ → Term) → (λ i. replace (raised s) (up r i)) ≡ up (λ i. replace s (r i))
replace-up s r =
    fun_ext (elim [ zero ↦ refl | suc n ↦ ap (replace (raised s)) (sym (lift_one (r n))) ∙ replace-lift s (r n) ∙ lift_one (replace s (r n)) ])

raised-substitute : (q s s₁ : ℕ → Term) → ((k : ℕ) → substitute q (s₁ k) ≡ s k) → (k : ℕ) → substitute (up q) (raised s₁ k) ≡ raised s k
raised-substitute q s s₁ h k =
    ap (substitute (up q)) (lift_one (s₁ k)) ∙ substitute-rename (up q) suc (s₁ k) ∙ sym (rename-substitute suc q (s₁ k)) ∙ ap (rename suc) (h k) ∙ sym (lift_one (s k))

-- s₁ is s before the substitution
pub replace-substitute : (r s s₁ : ℕ → Term) → ((k : ℕ) → substitute (λ i. replace s (r i)) (s₁ k) ≡ s k) → (t : Term) → replace s (substitute r t) ≡ substitute (λ i. replace s (r i)) (replace s₁ t)
replace-substitute r s s₁ h (Var i) = refl
replace-substitute r s s₁ h (Const k) = sym (h k)
replace-substitute r s s₁ h Prop = refl
replace-substitute r s s₁ h (Univ l) = refl
replace-substitute r s s₁ h (Pi tt a y) = let e = replace-up s r in let u = replace-substitute (up r) (raised s) (raised s₁) (λ k. ap (λ z. substitute z (raised s₁ k)) e ∙ raised-substitute (λ i. replace s (r i)) s s₁ h k) y in ap₂ (Pi tt) (replace-substitute r s s₁ h a) (u ∙ ap (λ z. substitute z (replace (raised s₁) y)) e)
replace-substitute r s s₁ h (Lam tt a y) = let e = replace-up s r in let u = replace-substitute (up r) (raised s) (raised s₁) (λ k. ap (λ z. substitute z (raised s₁ k)) e ∙ raised-substitute (λ i. replace s (r i)) s s₁ h k) y in ap₂ (Lam tt) (replace-substitute r s s₁ h a) (u ∙ ap (λ z. substitute z (replace (raised s₁) y)) e)
replace-substitute r s s₁ h (Sigma tt a y) = let e = replace-up s r in let u = replace-substitute (up r) (raised s) (raised s₁) (λ k. ap (λ z. substitute z (raised s₁ k)) e ∙ raised-substitute (λ i. replace s (r i)) s s₁ h k) y in ap₂ (Sigma tt) (replace-substitute r s s₁ h a) (u ∙ ap (λ z. substitute z (replace (raised s₁) y)) e)
replace-substitute r s s₁ h (Let tt a y) = let e = replace-up s r in let u = replace-substitute (up r) (raised s) (raised s₁) (λ k. ap (λ z. substitute z (raised s₁ k)) e ∙ raised-substitute (λ i. replace s (r i)) s s₁ h k) y in ap₂ (Let tt) (replace-substitute r s s₁ h a) (u ∙ ap (λ z. substitute z (replace (raised s₁) y)) e)
replace-substitute r s s₁ h (App tt m n) = ap₂ (App tt) (replace-substitute r s s₁ h m) (replace-substitute r s s₁ h n)
replace-substitute r s s₁ h (Pair tt a y m n) =
    let e = replace-up s r in let u = replace-substitute (up r) (raised s) (raised s₁) (λ k. ap (λ z. substitute z (raised s₁ k)) e ∙ raised-substitute (λ i. replace s (r i)) s s₁ h k) y in
    let v = u ∙ ap (λ z. substitute z (replace (raised s₁) y)) e in
    cc (v, replace-substitute r s s₁ h a, replace-substitute r s s₁ h m, replace-substitute r s s₁ h n)
replace-substitute r s s₁ h (Fst m) = ap Fst (replace-substitute r s s₁ h m)
replace-substitute r s s₁ h (Snd m) = ap Snd (replace-substitute r s s₁ h m)

one_lowers : (n t : Term) → substitute (one n) (lift 0 1 t) ≡ t
one_lowers n t = ap (substitute (one n)) (lift_one t) ∙ substitute-rename (one n) suc t ∙ substitute_var t

pub replace-instantiate : (s : ℕ → Term) (m n : Term) → replace s (instantiate m n) ≡ instantiate (replace (raised s) m) (replace s n)
replace-instantiate s m n =
    let e : (λ i. replace s (one n i)) ≡ one (replace s n) = fun_ext (elim [ zero ↦ refl | suc i ↦ refl ]) in
    ap (replace s) (instantiate_is m n)
    ∙ replace-substitute (one n) s (raised s) (λ k. ap (λ z. substitute z (raised s k)) e ∙ one_lowers (replace s n) (s k)) m
    ∙ ap (λ z. substitute z (replace (raised s) m)) e
    ∙ sym (instantiate_is (replace (raised s) m) (replace s n))

pub closed_lifted : (t : Term) → loose t ≡ 0 → lift 0 1 t ≡ t
closed_lifted t e = lift_one t ∙ closed_rename suc t e

-- a closed term, replaced under one binder more
pub raised_closed : (s : ℕ → Term) (t : Term) → loose t ≡ 0 → replace (raised s) t ≡ lift 0 1 (replace s t)
raised_closed s t e = ap (replace (raised s)) (sym (closed_lifted t e)) ∙ replace-lift s t

module _ (b b' : TermBodies) (bc : AreClosed b) (bc' : AreClosed b') where
  -- the replacing terms convert with the replaced bodies
  abbrev Stand : (ℕ → Term) → Type 0
  Stand s = (k : ℕ) (t : Term) → b k ≡ Some t → Converts b' (s k) (replace s t)

  pub lift_converts : {t u : Term} → Converts b' t u → Converts b' (lift 0 1 t) (lift 0 1 u)
  lift_converts {t} {u} p =
      rw (lift_one t, lift_one u, rename_is suc t, rename_is suc u) (convert-substitute b' bc' (λ i. Var (suc i)) p)

  raised_converts : (s : ℕ → Term) → Stand s → Stand (raised s)
  raised_converts s x k t e = rw (raised_closed s t (bc k t e)) (lift_converts (x k t e))

  r-step : (s : ℕ → Term) → Stand s → {t u : Term} → Step b t u → Converts b' (replace s t) (replace s u)
  r-step s x (Step.here (Contracts.beta {m = m} {n = n})) = rw (replace-instantiate s m n) (Converts.step (Step.here Contracts.beta))
  r-step s x (Step.here Contracts.first) = Converts.step (Step.here Contracts.first)
  r-step s x (Step.here Contracts.second) = Converts.step (Step.here Contracts.second)
  r-step s x (Step.here (Contracts.local {m = m} {n = n})) = rw (replace-instantiate s n m) (Converts.step (Step.here Contracts.local))
  r-step s x (Step.here (Contracts.unfolds {k = k} {m = t} e)) = x k t e
  r-step s x (Step.pi_domain {b = y} p) = convert_map (λ z. Pi tt z (replace (raised s) y)) (λ _ _ q. Step.pi_domain q) (r-step s x p)
  r-step s x (Step.pi_body {a = y} p) = convert_map (Pi tt (replace s y)) (λ _ _ q. Step.pi_body q) (r-step (raised s) (raised_converts s x) p)
  r-step s x (Step.lam_domain {m = y} p) = convert_map (λ z. Lam tt z (replace (raised s) y)) (λ _ _ q. Step.lam_domain q) (r-step s x p)
  r-step s x (Step.lam_body {a = y} p) = convert_map (Lam tt (replace s y)) (λ _ _ q. Step.lam_body q) (r-step (raised s) (raised_converts s x) p)
  r-step s x (Step.sigma_domain {b = y} p) = convert_map (λ z. Sigma tt z (replace (raised s) y)) (λ _ _ q. Step.sigma_domain q) (r-step s x p)
  r-step s x (Step.local_value {n = y} p) = convert_map (λ z. Let tt z (replace (raised s) y)) (λ _ _ q. Step.local_value q) (r-step s x p)
  r-step s x (Step.sigma_body {a = y} p) = convert_map (Sigma tt (replace s y)) (λ _ _ q. Step.sigma_body q) (r-step (raised s) (raised_converts s x) p)
  r-step s x (Step.local_body {m = y} p) = convert_map (Let tt (replace s y)) (λ _ _ q. Step.local_body q) (r-step (raised s) (raised_converts s x) p)
  r-step s x (Step.function {n = y} p) = convert_map (λ z. App tt z (replace s y)) (λ _ _ q. Step.function q) (r-step s x p)
  r-step s x (Step.argument {m = y} p) = convert_map (App tt (replace s y)) (λ _ _ q. Step.argument q) (r-step s x p)
  r-step s x (Step.pair_domain {b = w2} {m = w3} {n = w4} p) = convert_map (λ z. Pair tt z (replace (raised s) w2) (replace s w3) (replace s w4)) (λ _ _ q. Step.pair_domain q) (r-step s x p)
  r-step s x (Step.pair_body {a = w1} {m = w3} {n = w4} p) = convert_map (λ z. Pair tt (replace s w1) z (replace s w3) (replace s w4)) (λ _ _ q. Step.pair_body q) (r-step (raised s) (raised_converts s x) p)
  r-step s x (Step.pair_first {a = w1} {b = w2} {n = w4} p) = convert_map (λ z. Pair tt (replace s w1) (replace (raised s) w2) z (replace s w4)) (λ _ _ q. Step.pair_first q) (r-step s x p)
  r-step s x (Step.pair_second {a = w1} {b = w2} {m = w3} p) = convert_map (λ z. Pair tt (replace s w1) (replace (raised s) w2) (replace s w3) z) (λ _ _ q. Step.pair_second q) (r-step s x p)
  r-step s x (Step.fst_operand p) = convert_map Fst (λ _ _ q. Step.fst_operand q) (r-step s x p)
  r-step s x (Step.snd_operand p) = convert_map Snd (λ _ _ q. Step.snd_operand q) (r-step s x p)

  r-convert : (s : ℕ → Term) → Stand s → {t u : Term} → Converts b t u → Converts b' (replace s t) (replace s u)
  r-convert s x (Converts.step p) = r-step s x p
  r-convert s x Converts.same = Converts.same
  r-convert s x (Converts.back p) = Converts.back (r-convert s x p)
  r-convert s x (Converts.chain p q) = Converts.chain (r-convert s x p) (r-convert s x q)

  r-below : (s : ℕ → Term) → Stand s → {t u : Term} → Below b t u → Below b' (replace s t) (replace s u)
  r-below s x (Below.converts p) = Below.converts (r-convert s x p)
  r-below s x Below.prop = Below.prop
  r-below s x Below.universe = Below.universe
  r-below s x (Below.pi p q) = Below.pi (r-convert s x p) (r-below (raised s) (raised_converts s x) q)
  r-below s x (Below.sigma p q) = Below.sigma (r-below s x p) (r-below (raised s) (raised_converts s x) q)
  r-below s x (Below.chain p q) = Below.chain (r-below s x p) (r-below s x q)

-- over the outer locals h the terms have the replaced types, and convert with the replaced bodies
pub record Stands (s : ℕ → Term) (c b c' b' : TermBodies) (h : List Term) : Type 0 where
  pub typed : (k : ℕ) (a : Term) → c k ≡ Some a → Derives c' b' h (s k) (replace s a)
  pub converts : (k : ℕ) (t : Term) → b k ≡ Some t → Converts b' (s k) (replace s t)

module _ (s : ℕ → Term) (c b c' b' : TermBodies) (h : List Term) (tc : AreClosed c) (bc : AreClosed b) (tc' : AreClosed c') (bc' : AreClosed b') (x : Stands s c b c' b' h) where
  deep : (g : List Term) → (k : ℕ) (t : Term) → b k ≡ Some t → Converts b' (under_locals s g k) (replace (under_locals s g) t)
  deep [] = x.converts
  deep (a ∷ g) = raised_converts b b' bc bc' (under_locals s g) (deep g)

  r-local : {g : List Term} {i : ℕ} {a : Term} → HasLocal g i a → HasLocal (replaced_locals s h g) i (replace (under_locals s g) a)
  r-local (HasLocal.here {g = g} {a = a}) = rw (replace-lift (under_locals s g) a) HasLocal.here
  r-local (HasLocal.there {g = g} {t = t} l) = rw (replace-lift (under_locals s g) t) (HasLocal.there (r-local l))

  r-const : (g : List Term) (k : ℕ) (a : Term) → c k ≡ Some a → Derives c' b' (replaced_locals s h g) (under_locals s g k) (replace (under_locals s g) a)
  r-const [] k a e = x.typed k a e
  r-const (y ∷ g) k a e = rw (raised_closed (under_locals s g) a (tc k a e)) (d-thin c' b' tc' bc' (r-const g k a e) (replace (under_locals s g) y))

  pub r-derives : {g : List Term} {m a : Term} → Derives c b g m a → Derives c' b' (replaced_locals s h g) (replace (under_locals s g) m) (replace (under_locals s g) a)
  r-derives d_prop = d_prop
  r-derives d_univ = d_univ
  r-derives (d_var l) = d_var (r-local l)
  r-derives (d_const {g = g} {k = k} {a = a} e) = r-const g k a e
  r-derives (d_pi_prop d e) = d_pi_prop (r-derives d) (r-derives e)
  r-derives (d_pi d e) = d_pi (r-derives d) (r-derives e)
  r-derives (d_lam d e) = d_lam (r-derives d) (r-derives e)
  r-derives (d_app {g = g} {r = r} {n = n} d e) = rw (replace-instantiate (under_locals s g) r n) (d_app (r-derives d) (r-derives e))
  r-derives (d_sigma d e) = d_sigma (r-derives d) (r-derives e)
  r-derives (d_pair {g = g} {r = r} {m = m} d e p q) = d_pair (r-derives d) (r-derives e) (r-derives p) (rw (← replace-instantiate (under_locals s g) r m) (r-derives q))
  r-derives (d_fst d) = d_fst (r-derives d)
  r-derives (d_snd {g = g} {r = r} {m = m} d) = rw (replace-instantiate (under_locals s g) r (Fst m)) (d_snd (r-derives d))
  r-derives (d_let {g = g} {m = m} {n = n} d e) = d_let (r-derives d) (rw (← replace-instantiate (under_locals s g) n m) (r-derives e))
  r-derives (d_cum {g = g} d e l) = d_cum (r-derives d) (r-derives e) (r-below b b' bc bc' (under_locals s g) (deep g) l)
