-- The constants of a typed term have types, so what replaces others doesn't matter.
use Rattle.std.proofs.Common.{◌≡◌, ℕ, suc, Bool, true, false, IsTrue, Option, Some, None, List, refl, ap, ap₂, unwrap_or}
use Rattle.lego_term.specs.Trees.{Term, Var, Const, Prop, Univ, Pi, Lam, App, Sigma, Pair, Fst, Snd, Let, lift, put, instantiate, replace_constants}
use Rattle.lego_laws.specs.Parallel.{TermBodies}
use Rattle.lego_laws.specs.Derivations.{Derives, d_prop, d_univ, d_var, d_const, d_pi_prop, d_pi, d_lam, d_app, d_sigma, d_pair, d_fst, d_snd, d_let, d_cum}
use Rattle.lego_laws.specs.Replacement.{raised, replace}
use Rattle.lego_laws.specs.Strengthening.{MentionsOnly}

-- what a term with a value put in mentions, the term mentions
m-unput : (p : ℕ → Bool) (depth : ℕ) (v t : Term) → MentionsOnly p (put depth v t) → MentionsOnly p t
m-unput p depth v (Var i) h = tt
m-unput p depth v (Const k) h = h
m-unput p depth v Prop h = tt
m-unput p depth v (Univ l) h = tt
m-unput p depth v (Pi x a r) h = (m-unput p depth v a h.0, m-unput p (suc depth) v r h.1)
m-unput p depth v (Lam x a r) h = (m-unput p depth v a h.0, m-unput p (suc depth) v r h.1)
m-unput p depth v (Sigma x a r) h = (m-unput p depth v a h.0, m-unput p (suc depth) v r h.1)
m-unput p depth v (App x m n) h = (m-unput p depth v m h.0, m-unput p depth v n h.1)
m-unput p depth v (Pair x a r m n) h = (m-unput p depth v a h.0, m-unput p (suc depth) v r h.1, m-unput p depth v m h.2, m-unput p depth v n h.3)
m-unput p depth v (Fst m) h = m-unput p depth v m h
m-unput p depth v (Snd m) h = m-unput p depth v m h
m-unput p depth v (Let x m n) h = (m-unput p depth v m h.0, m-unput p (suc depth) v n h.1)

pub m-body : (p : ℕ → Bool) (n m : Term) → MentionsOnly p (instantiate n m) → MentionsOnly p n
unfolding instantiate
m-body p n m h = m-unput p 0 m n h

has_value : Option Term → Bool
has_value None = false
has_value (Some t) = true

value_of : (o : Option Term) → IsTrue (has_value o) → (t : Term) × (o ≡ Some t)
unfolding has_value
value_of None h = cc
value_of (Some t) h = (t, refl)

known : {c b : TermBodies} {g : List Term} {m a : Term} → Derives c b g m a → MentionsOnly (λ k. has_value (c k)) m
unfolding has_value
known d_prop = tt
known d_univ = tt
known (d_var l) = tt
known (d_const e) = ap has_value e
known (d_pi_prop d e) = (known d, known e)
known (d_pi d e) = (known d, known e)
known (d_lam d e) = (known d, known e)
known (d_app d e) = (known d, known e)
known (d_sigma d e) = (known d, known e)
known (d_pair d e p q) = (known d, known e, known p, known q)
known (d_fst d) = known d
known (d_snd d) = known d
known {c} (d_let {m = m} {n = n} d e) = (known d, m-body (λ k. has_value (c k)) n m (known e))
known (d_cum d e l) = known d

replaced_alike : (p : ℕ → Bool) (s r : TermBodies) → ((k : ℕ) → IsTrue (p k) → s k ≡ r k) → (t : Term) → MentionsOnly p t → replace_constants s t ≡ replace_constants r t
replaced_alike p s r h (Var i) m = refl
replaced_alike p s r h (Const k) m = ap (λ o. unwrap_or o (Const k)) (h k m)
replaced_alike p s r h Prop m = refl
replaced_alike p s r h (Univ l) m = refl
replaced_alike p s r h (Pi x a c) m = ap₂ (Pi x) (replaced_alike p s r h a m.0) (replaced_alike p s r h c m.1)
replaced_alike p s r h (Lam x a c) m = ap₂ (Lam x) (replaced_alike p s r h a m.0) (replaced_alike p s r h c m.1)
replaced_alike p s r h (App x a c) m = ap₂ (App x) (replaced_alike p s r h a m.0) (replaced_alike p s r h c m.1)
replaced_alike p s r h (Sigma x a c) m = ap₂ (Sigma x) (replaced_alike p s r h a m.0) (replaced_alike p s r h c m.1)
replaced_alike p s r h (Let x a c) m = ap₂ (Let x) (replaced_alike p s r h a m.0) (replaced_alike p s r h c m.1)
replaced_alike p s r h (Pair x a c y z) m = cc (replaced_alike p s r h a m.0, replaced_alike p s r h c m.1, replaced_alike p s r h y m.2, replaced_alike p s r h z m.3)
replaced_alike p s r h (Fst a) m = ap Fst (replaced_alike p s r h a m)
replaced_alike p s r h (Snd a) m = ap Snd (replaced_alike p s r h a m)

-- replacements that agree on the constants with types give the same of a typed term
pub replace_agree : {c b : TermBodies} (s r : TermBodies) → ((k : ℕ) (a : Term) → c k ≡ Some a → s k ≡ r k) → {g : List Term} {m a : Term} → Derives c b g m a → replace_constants s m ≡ replace_constants r m
replace_agree {c} s r h {m = m} d =
    replaced_alike (λ k. has_value (c k)) s r (λ k i. let t = value_of (c k) i in h k t.0 t.1) m (known d)

terms_alike : (p : ℕ → Bool) (s r : ℕ → Term) → ((k : ℕ) → IsTrue (p k) → s k ≡ r k) → (t : Term) → MentionsOnly p t → replace s t ≡ replace r t
terms_alike p s r h (Var i) m = refl
terms_alike p s r h (Const k) m = h k m
terms_alike p s r h Prop m = refl
terms_alike p s r h (Univ l) m = refl
terms_alike p s r h (Pi x a c) m = ap₂ (Pi x) (terms_alike p s r h a m.0) (terms_alike p (raised s) (raised r) (λ k i. ap (lift 0 1) (h k i)) c m.1)
terms_alike p s r h (Lam x a c) m = ap₂ (Lam x) (terms_alike p s r h a m.0) (terms_alike p (raised s) (raised r) (λ k i. ap (lift 0 1) (h k i)) c m.1)
terms_alike p s r h (Sigma x a c) m = ap₂ (Sigma x) (terms_alike p s r h a m.0) (terms_alike p (raised s) (raised r) (λ k i. ap (lift 0 1) (h k i)) c m.1)
terms_alike p s r h (Let x a c) m = ap₂ (Let x) (terms_alike p s r h a m.0) (terms_alike p (raised s) (raised r) (λ k i. ap (lift 0 1) (h k i)) c m.1)
terms_alike p s r h (App x a c) m = ap₂ (App x) (terms_alike p s r h a m.0) (terms_alike p s r h c m.1)
terms_alike p s r h (Pair x a c y z) m =
    cc (terms_alike p s r h a m.0, terms_alike p (raised s) (raised r) (λ k i. ap (lift 0 1) (h k i)) c m.1, terms_alike p s r h y m.2, terms_alike p s r h z m.3)
terms_alike p s r h (Fst a) m = ap Fst (terms_alike p s r h a m)
terms_alike p s r h (Snd a) m = ap Snd (terms_alike p s r h a m)

pub replaced_agree : {c b : TermBodies} (s r : ℕ → Term) → ((k : ℕ) (a : Term) → c k ≡ Some a → s k ≡ r k) → {g : List Term} {m a : Term} → Derives c b g m a → replace s m ≡ replace r m
replaced_agree {c} s r h {m = m} d =
    terms_alike (λ k. has_value (c k)) s r (λ k i. let t = value_of (c k) i in h k t.0 t.1) m (known d)
