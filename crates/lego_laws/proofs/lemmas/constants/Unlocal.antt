-- Local definitions put in: terms, steps and derivations without them.
use Rattle.std.proofs.Common.{◌≡◌, ℕ, zero, suc, Option, Some, None, option_map, List, ◌∷◌, map, unwrap_or, refl, sym, ap, ap₂, ◌∙◌}
use mathlib.Core.Path.{fun_ext}
use Rattle.lego_term.specs.Trees.{Term, Var, Const, Prop, Univ, Pi, Lam, App, Sigma, Pair, Fst, Snd, Let, lift, instantiate, replace_constants}
use Rattle.lego_term.specs.Steps.{Step, Contracts, Converts}
use Rattle.lego_term.specs.Below.{Below}
use Rattle.lego_laws.specs.Parallel.{TermBodies, AreClosed}
use Rattle.lego_laws.specs.Derivations.{HasLocal, Derives, d_prop, d_univ, d_var, d_const, d_pi_prop, d_pi, d_lam, d_app, d_sigma, d_pair, d_fst, d_snd, d_let, d_cum}
use Rattle.lego_laws.specs.Expansion.{expand_by}
use Rattle.lego_laws.proofs.lemmas.reduction.Subst.{rename, up_ren, substitute, up, one, lift_is, raise, substitute-instantiate, instantiate_is}
use Rattle.lego_laws.proofs.lemmas.reduction.Parallel.{rename-instantiate}
use Rattle.lego_laws.proofs.lemmas.reduction.Substituted.{convert-instantiate}
use Rattle.lego_laws.proofs.lemmas.reduction.CommonReducts.{convert_map}

-- the term without local definitions
abbrev pub flat : Term → Term
flat = expand_by (λ k. None)

flat-rename : (f : ℕ → ℕ) (t : Term) → flat (rename f t) ≡ rename f (flat t)
flat-rename f (Var i) = refl
flat-rename f (Const k) = refl
flat-rename f Prop = refl
flat-rename f (Univ l) = refl
flat-rename f (Pi x a b) = cc (flat-rename f a, flat-rename (up_ren f) b)
flat-rename f (Lam x a b) = cc (flat-rename f a, flat-rename (up_ren f) b)
flat-rename f (Sigma x a b) = cc (flat-rename f a, flat-rename (up_ren f) b)
flat-rename f (App k m n) = cc (flat-rename f m, flat-rename f n)
flat-rename f (Pair x a b m n) = cc (flat-rename f a, flat-rename (up_ren f) b, flat-rename f m, flat-rename f n)
flat-rename f (Fst m) = ap Fst (flat-rename f m)
flat-rename f (Snd m) = ap Snd (flat-rename f m)
flat-rename f (Let x m n) =
    ap₂ instantiate (flat-rename (up_ren f) n) (flat-rename f m) ∙ sym (rename-instantiate f (flat n) (flat m))

flat-up : (s : ℕ → Term) → (λ i. flat (up s i)) ≡ up (λ i. flat (s i))
flat-up s = fun_ext (elim [ zero ↦ refl | suc n ↦ flat-rename suc (s n) ])

flat-under : (s : ℕ → Term) (b : Term) → flat (substitute (up s) b) ≡ substitute (λ i. flat (up s i)) (flat b) → flat (substitute (up s) b) ≡ substitute (up (λ i. flat (s i))) (flat b)
flat-under s b e = e ∙ ap (λ r. substitute r (flat b)) (flat-up s)

flat-substitute : (s : ℕ → Term) (t : Term) → flat (substitute s t) ≡ substitute (λ i. flat (s i)) (flat t)
flat-substitute s (Var i) = refl
flat-substitute s (Const k) = refl
flat-substitute s Prop = refl
flat-substitute s (Univ l) = refl
flat-substitute s (Pi x a b) = ap₂ (Pi x) (flat-substitute s a) (flat-under s b (flat-substitute (up s) b))
flat-substitute s (Lam x a b) = ap₂ (Lam x) (flat-substitute s a) (flat-under s b (flat-substitute (up s) b))
flat-substitute s (Sigma x a b) = ap₂ (Sigma x) (flat-substitute s a) (flat-under s b (flat-substitute (up s) b))
flat-substitute s (App k m n) = cc (flat-substitute s m, flat-substitute s n)
flat-substitute s (Pair x a b m n) =
    let eb = flat-under s b (flat-substitute (up s) b) in
    cc (flat-substitute s a, eb, flat-substitute s m, flat-substitute s n)
flat-substitute s (Fst m) = ap Fst (flat-substitute s m)
flat-substitute s (Snd m) = ap Snd (flat-substitute s m)
flat-substitute s (Let x m n) =
    ap₂ instantiate (flat-under s n (flat-substitute (up s) n)) (flat-substitute s m)
    ∙ sym (substitute-instantiate (λ i. flat (s i)) (flat n) (flat m))

pub flat-instantiate : (m n : Term) → flat (instantiate m n) ≡ instantiate (flat m) (flat n)
flat-instantiate m n =
    let e : (λ i. flat (one n i)) ≡ one (flat n) = fun_ext (elim [ zero ↦ refl | suc i ↦ refl ]) in
    ap flat (instantiate_is m n) ∙ flat-substitute (one n) m ∙ ap (λ r. substitute r (flat m)) e ∙ sym (instantiate_is (flat m) (flat n))

pub flat-lift : (from by : ℕ) (t : Term) → flat (lift from by t) ≡ lift from by (flat t)
flat-lift from by t = ap flat (lift_is from by t) ∙ flat-rename (raise from by) t ∙ sym (lift_is from by (flat t))

-- the bodies, or the types, without local definitions
abbrev pub flat_bodies : TermBodies → TermBodies
flat_bodies b k = option_map flat (b k)

const_is : (k : ℕ) (o : Option Term) → unwrap_or (option_map flat o) (Const k) ≡ flat (unwrap_or o (Const k))
const_is k None = refl
const_is k (Some t) = refl

-- an expansion is a replacement of constants, without local definitions
pub expand_is : (s r : TermBodies) → ((k : ℕ) → s k ≡ option_map flat (r k)) → (t : Term) → expand_by s t ≡ flat (replace_constants r t)
expand_is s r h (Var i) = refl
expand_is s r h (Const k) = ap (λ o. unwrap_or o (Const k)) (h k) ∙ const_is k (r k)
expand_is s r h Prop = refl
expand_is s r h (Univ l) = refl
expand_is s r h (Pi x a b) = ap₂ (Pi x) (expand_is s r h a) (expand_is s r h b)
expand_is s r h (Lam x a b) = ap₂ (Lam x) (expand_is s r h a) (expand_is s r h b)
expand_is s r h (App x a b) = ap₂ (App x) (expand_is s r h a) (expand_is s r h b)
expand_is s r h (Sigma x a b) = ap₂ (Sigma x) (expand_is s r h a) (expand_is s r h b)
expand_is s r h (Pair x a b m n) = cc (expand_is s r h a, expand_is s r h b, expand_is s r h m, expand_is s r h n)
expand_is s r h (Fst m) = ap Fst (expand_is s r h m)
expand_is s r h (Snd m) = ap Snd (expand_is s r h m)
expand_is s r h (Let x m n) = ap₂ instantiate (expand_is s r h n) (expand_is s r h m)

-- the thirteen rules over fixed constants
pub data Pure (c b : TermBodies) : List Term → Term → Term → Type 0 where
  q_prop : {g : List Term} → Pure c b g Prop (Univ 0)
  q_univ : {g : List Term} {j : ℕ} → Pure c b g (Univ j) (Univ (suc j))
  q_var : {g : List Term} {i : ℕ} {a : Term} → HasLocal g i a → Pure c b g (Var i) a
  q_const : {g : List Term} {k : ℕ} {a : Term} → c k ≡ Some a → Pure c b g (Const k) a
  q_pi_prop : {g : List Term} {a p : Term} {j : ℕ} → Pure c b g a (Univ j) → Pure c b (a ∷ g) p Prop → Pure c b g (Pi tt a p) Prop
  q_pi : {g : List Term} {a r : Term} {j : ℕ} → Pure c b g a (Univ j) → Pure c b (a ∷ g) r (Univ j) → Pure c b g (Pi tt a r) (Univ j)
  q_lam : {g : List Term} {a r m : Term} {j : ℕ} → Pure c b g a (Univ j) → Pure c b (a ∷ g) m r → Pure c b g (Lam tt a m) (Pi tt a r)
  q_app : {g : List Term} {a r m n : Term} → Pure c b g m (Pi tt a r) → Pure c b g n a → Pure c b g (App tt m n) (instantiate r n)
  q_sigma : {g : List Term} {a r : Term} {j : ℕ} → Pure c b g a (Univ j) → Pure c b (a ∷ g) r (Univ j) → Pure c b g (Sigma tt a r) (Univ j)
  q_pair : {g : List Term} {a r m n : Term} {i j : ℕ}
      → Pure c b g a (Univ i) → Pure c b (a ∷ g) r (Univ j) → Pure c b g m a → Pure c b g n (instantiate r m) → Pure c b g (Pair tt a r m n) (Sigma tt a r)
  q_fst : {g : List Term} {a r m : Term} → Pure c b g m (Sigma tt a r) → Pure c b g (Fst m) a
  q_snd : {g : List Term} {a r m : Term} → Pure c b g m (Sigma tt a r) → Pure c b g (Snd m) (instantiate r (Fst m))
  q_cum : {g : List Term} {m a a' : Term} {j : ℕ} → Pure c b g m a → Pure c b g a' (Univ j) → Below b a a' → Pure c b g m a'

module _ (c b : TermBodies) (closed : AreClosed (flat_bodies b)) where
  f-step : {t u : Term} → Step b t u → Converts (flat_bodies b) (flat t) (flat u)
  f-step (Step.here (Contracts.beta {m = m} {n = n})) = rw (flat-instantiate m n) (Converts.step (Step.here Contracts.beta))
  f-step (Step.here Contracts.first) = Converts.step (Step.here Contracts.first)
  f-step (Step.here Contracts.second) = Converts.step (Step.here Contracts.second)
  f-step (Step.here (Contracts.local {m = m} {n = n})) = rw (flat-instantiate n m) Converts.same
  f-step (Step.here (Contracts.unfolds e)) = Converts.step (Step.here (Contracts.unfolds (ap (option_map flat) e)))
  f-step (Step.pi_domain {b = y} p) = convert_map (λ z. Pi tt z (flat y)) (λ _ _ q. Step.pi_domain q) (f-step p)
  f-step (Step.pi_body {a = y} p) = convert_map (Pi tt (flat y)) (λ _ _ q. Step.pi_body q) (f-step p)
  f-step (Step.lam_domain {m = y} p) = convert_map (λ z. Lam tt z (flat y)) (λ _ _ q. Step.lam_domain q) (f-step p)
  f-step (Step.lam_body {a = y} p) = convert_map (Lam tt (flat y)) (λ _ _ q. Step.lam_body q) (f-step p)
  f-step (Step.function {n = y} p) = convert_map (λ z. App tt z (flat y)) (λ _ _ q. Step.function q) (f-step p)
  f-step (Step.argument {m = y} p) = convert_map (App tt (flat y)) (λ _ _ q. Step.argument q) (f-step p)
  f-step (Step.sigma_domain {b = y} p) = convert_map (λ z. Sigma tt z (flat y)) (λ _ _ q. Step.sigma_domain q) (f-step p)
  f-step (Step.sigma_body {a = y} p) = convert_map (Sigma tt (flat y)) (λ _ _ q. Step.sigma_body q) (f-step p)
  f-step (Step.pair_domain {b = w2} {m = w3} {n = w4} p) = convert_map (λ z. Pair tt z (flat w2) (flat w3) (flat w4)) (λ _ _ q. Step.pair_domain q) (f-step p)
  f-step (Step.pair_body {a = w1} {m = w3} {n = w4} p) = convert_map (λ z. Pair tt (flat w1) z (flat w3) (flat w4)) (λ _ _ q. Step.pair_body q) (f-step p)
  f-step (Step.pair_first {a = w1} {b = w2} {n = w4} p) = convert_map (λ z. Pair tt (flat w1) (flat w2) z (flat w4)) (λ _ _ q. Step.pair_first q) (f-step p)
  f-step (Step.pair_second {a = w1} {b = w2} {m = w3} p) = convert_map (λ z. Pair tt (flat w1) (flat w2) (flat w3) z) (λ _ _ q. Step.pair_second q) (f-step p)
  f-step (Step.fst_operand p) = convert_map Fst (λ _ _ q. Step.fst_operand q) (f-step p)
  f-step (Step.snd_operand p) = convert_map Snd (λ _ _ q. Step.snd_operand q) (f-step p)
  f-step (Step.local_value {n = y} p) = convert-instantiate (flat_bodies b) closed {m = flat y} Converts.same (f-step p)
  f-step (Step.local_body {m = y} p) = convert-instantiate (flat_bodies b) closed {n = flat y} (f-step p) Converts.same

  f-convert : {t u : Term} → Converts b t u → Converts (flat_bodies b) (flat t) (flat u)
  f-convert (Converts.step p) = f-step p
  f-convert Converts.same = Converts.same
  f-convert (Converts.back p) = Converts.back (f-convert p)
  f-convert (Converts.chain p q) = Converts.chain (f-convert p) (f-convert q)

  f-below : {t u : Term} → Below b t u → Below (flat_bodies b) (flat t) (flat u)
  f-below (Below.converts p) = Below.converts (f-convert p)
  f-below Below.prop = Below.prop
  f-below Below.universe = Below.universe
  f-below (Below.pi p q) = Below.pi (f-convert p) (f-below q)
  f-below (Below.sigma p q) = Below.sigma (f-below p) (f-below q)
  f-below (Below.chain p q) = Below.chain (f-below p) (f-below q)

  f-local : {g : List Term} {i : ℕ} {a : Term} → HasLocal g i a → HasLocal (map flat g) i (flat a)
  f-local (HasLocal.here {a = a}) = rw (flat-lift 0 1 a) HasLocal.here
  f-local (HasLocal.there {t = t} l) = rw (flat-lift 0 1 t) (HasLocal.there (f-local l))

  pub f-derives : {g : List Term} {m a : Term} → Derives c b g m a → Pure (flat_bodies c) (flat_bodies b) (map flat g) (flat m) (flat a)
  f-derives d_prop = q_prop
  f-derives d_univ = q_univ
  f-derives (d_var l) = q_var (f-local l)
  f-derives (d_const e) = q_const (ap (option_map flat) e)
  f-derives (d_pi_prop d e) = q_pi_prop (f-derives d) (f-derives e)
  f-derives (d_pi d e) = q_pi (f-derives d) (f-derives e)
  f-derives (d_lam d e) = q_lam (f-derives d) (f-derives e)
  f-derives (d_app {r = r} {n = n} d e) = rw (flat-instantiate r n) (q_app (f-derives d) (f-derives e))
  f-derives (d_sigma d e) = q_sigma (f-derives d) (f-derives e)
  f-derives (d_pair {r = r} {m = m} d e p q) = q_pair (f-derives d) (f-derives e) (f-derives p) (rw (← flat-instantiate r m) (f-derives q))
  f-derives (d_fst d) = q_fst (f-derives d)
  f-derives (d_snd {r = r} {m = m} d) = rw (flat-instantiate r (Fst m)) (q_snd (f-derives d))
  f-derives (d_let {m = m} {n = n} d e) = rw (← flat-instantiate n m) (f-derives e)
  f-derives (d_cum d e l) = q_cum (f-derives d) (f-derives e) (f-below l)
