-- Comparison through head forms is exact.
use Rattle.std.proofs.Common.{◌≡◌, ℕ, ◌≤◌, List, ◌++◌, refl, arith}
use Rattle.lego_term.specs.declared.level.Level.{Level}
use Rattle.lego_term.specs.Levels.{Assignment, level_value, LevelPair, SatisfiesAll}
use Rattle.lego_term.specs.Trees.{Core, Term, Var, Const, Prop, Univ, Pi, Lam, App, Sigma, Pair, Fst, Snd, at}
use Rattle.lego_term.specs.Steps.{Converts}
use Rattle.lego_term.specs.Below.{Below}
use Rattle.lego_laws.specs.Parallel.{TermBodies, CoreBodies, AreClosed, bodies_at, valued, bodies_valued}
use Rattle.lego_laws.specs.Cumulativity.{ByForm}
use Rattle.lego_laws.specs.HeadForms.{IsHeadForm, PartsBelow, at_lam, at_app, at_pair, at_fst, at_snd}
use Rattle.lego_laws.specs.Facing.{Order, Cumulativity, Conversion}
use Rattle.lego_laws.specs.Comparison.{Related, asked, Compared, m_equal, m_heads, FormsCompared, f_var, f_const, f_prop, f_prop_univ, f_univ, f_pi, f_lam, f_app, f_sigma, f_pair, f_fst, f_snd, ComparisonIsExact}
use Rattle.lego_laws.proofs.lemmas.reduction.CommonReducts.{joins, pi_same, lam_same, app_same, sigma_same, pair_same, fst_same, snd_same}
use Rattle.lego_laws.proofs.lemmas.reduction.Below.{convert_joined, under-below, pi_inverts, sigma_inverts, universes_invert}
use Rattle.lego_laws.proofs.lemmas.reduction.Head.{Ran, r_var, r_const, r_prop, r_univ, r_pi, r_lam, r_app, r_sigma, r_pair, r_fst, r_snd, ran, head_forms_compare}
use Rattle.lego_laws.proofs.lemmas.inference.Satisfying.{InOrder, in_order_front, in_order_back, satisfies_append}
use Rattle.lego_laws.proofs.lemmas.reduction.Valued.{closed_valued, equal_valued, head_form_converts, head_form_valued}

-- the forms agree, and the parts convert
pub data PartsConvert (b : TermBodies) : Term → Term → Type 0 where
  k_var : {i : ℕ} → PartsConvert b (Var i) (Var i)
  k_const : {k : ℕ} → PartsConvert b (Const k) (Const k)
  k_prop : PartsConvert b Prop Prop
  k_univ : {l : ℕ} → PartsConvert b (Univ l) (Univ l)
  k_pi : {a a' r r' : Term} → Converts b a a' → Converts b r r' → PartsConvert b (Pi tt a r) (Pi tt a' r')
  k_lam : {a a' r r' : Term} → Converts b a a' → Converts b r r' → PartsConvert b (Lam tt a r) (Lam tt a' r')
  k_app : {a a' r r' : Term} → Converts b a a' → Converts b r r' → PartsConvert b (App tt a r) (App tt a' r')
  k_sigma : {a a' r r' : Term} → Converts b a a' → Converts b r r' → PartsConvert b (Sigma tt a r) (Sigma tt a' r')
  k_pair : {a a' r r' m m' n n' : Term} → Converts b a a' → Converts b r r' → Converts b m m' → Converts b n n' → PartsConvert b (Pair tt a r m n) (Pair tt a' r' m' n')
  k_fst : {m m' : Term} → Converts b m m' → PartsConvert b (Fst m) (Fst m')
  k_snd : {m m' : Term} → Converts b m m' → PartsConvert b (Snd m) (Snd m')

met : {b : TermBodies} {t u v : Term} → Ran b t v → Ran b u v → PartsConvert b t u
met r_var r_var = k_var
met r_const r_const = k_const
met r_prop r_prop = k_prop
met r_univ r_univ = k_univ
met (r_pi p q) (r_pi r s) = k_pi (convert_joined p r) (convert_joined q s)
met (r_lam p q) (r_lam r s) = k_lam (convert_joined p r) (convert_joined q s)
met (r_app p q) (r_app r s) = k_app (convert_joined p r) (convert_joined q s)
met (r_sigma p q) (r_sigma r s) = k_sigma (convert_joined p r) (convert_joined q s)
met (r_pair p q x y) (r_pair r s z w) = k_pair (convert_joined p r) (convert_joined q s) (convert_joined x z) (convert_joined y w)
met (r_fst p) (r_fst r) = k_fst (convert_joined p r)
met (r_snd p) (r_snd r) = k_snd (convert_joined p r)

pub parts_convert : (b : TermBodies) → AreClosed b → (t u : Term) → IsHeadForm b t → IsHeadForm b u → Converts b t u → PartsConvert b t u
parts_convert b closed t u e f p = let j = joins b closed p in met (ran j.left e) (ran j.right f)

-- in either order
pub of_conversion : (o : Order) {b : TermBodies} {t u : Term} → Converts b t u → Related o b t u
of_conversion Cumulativity p = Below.converts p
of_conversion Conversion p = p

pub chain : (o : Order) (b : TermBodies) (t u v w : Term) → Converts b t u → Related o b u v → Converts b v w → Related o b t w
chain Cumulativity b t u v w p q r = Below.chain (Below.converts p) (Below.chain q (Below.converts r))
chain Conversion b t u v w p q r = Converts.chain p (Converts.chain q r)

pi_related : (o : Order) (b : TermBodies) (a a' r r' : Term) → Converts b a a' → Related o b r r' → Related o b (Pi tt a r) (Pi tt a' r')
pi_related Cumulativity b a a' r r' p q = Below.pi p q
pi_related Conversion b a a' r r' p q = pi_same p q

sigma_related : (o : Order) (b : TermBodies) (a a' r r' : Term) → Related o b a a' → Related o b r r' → Related o b (Sigma tt a r) (Sigma tt a' r')
sigma_related Cumulativity b a a' r r' p q = Below.sigma p q
sigma_related Conversion b a a' r r' p q = sigma_same p q

univ_related : (o : Order) (b : TermBodies) (value : Level → ℕ) (l m : Level) → InOrder value (asked o l m) → Related o b (Univ (value l)) (Univ (value m))
univ_related Cumulativity b value l m h = under-below (ByForm.universes h.0)
univ_related Conversion b value l m h =
    let first = h.0 in
    let second = h.1.0 in
    let e : value l ≡ value m = omega arith in
    rw e Converts.same

equal_related : (o : Order) (b : TermBodies) (t u : Term) → t ≡ u → Related o b t u
equal_related o b t u e = rw e (of_conversion o Converts.same)

module _ (value : Level → ℕ) where
  -- where the gathered pairs are in order, the terms are related
  mutual
    pub gathered : {b : CoreBodies} {o : Order} {t u : Core} {k : List LevelPair} → Compared b o t u k → InOrder value k → Related o (bodies_valued value b) (valued value t) (valued value u)
    gathered {b} (m_equal {o = o} {t = t} {u = u} e) h = equal_related o (bodies_valued value b) (valued value t) (valued value u) (equal_valued value t u e)
    gathered (m_heads {o = o} _ p q c) h = chain o _ _ _ _ _ (head_form_converts value p) (gathered_forms c h) (Converts.back (head_form_converts value q))

    gathered_forms : {b : CoreBodies} {o : Order} {t u : Core} {k : List LevelPair} → FormsCompared b o t u k → InOrder value k → Related o (bodies_valued value b) (valued value t) (valued value u)
    gathered_forms (f_var {o = o}) h = of_conversion o Converts.same
    gathered_forms (f_const {o = o}) h = of_conversion o Converts.same
    gathered_forms (f_prop {o = o}) h = of_conversion o Converts.same
    gathered_forms f_prop_univ h = under-below ByForm.prop
    gathered_forms {b} (f_univ {o = o} {l = l} {m = m}) h = univ_related o (bodies_valued value b) value l m h
    gathered_forms (f_pi {o = o} {k = k} {l = l} p q) h = pi_related o _ _ _ _ _ (gathered p (in_order_front value k l h)) (gathered q (in_order_back value k l h))
    gathered_forms (f_lam {o = o} {k = k} {l = l} p q) h = of_conversion o (lam_same (gathered p (in_order_front value k l h)) (gathered q (in_order_back value k l h)))
    gathered_forms (f_app {o = o} {k = k} {l = l} p q) h = of_conversion o (app_same (gathered p (in_order_front value k l h)) (gathered q (in_order_back value k l h)))
    gathered_forms (f_sigma {o = o} {k = k} {l = l} p q) h = sigma_related o _ _ _ _ _ (gathered p (in_order_front value k l h)) (gathered q (in_order_back value k l h))
    gathered_forms (f_pair {o = o} {k = k} {l = l} {p = i} {q = j} p q x y) h =
        let first = in_order_front value (k ++ l) (i ++ j) h in
        let second = in_order_back value (k ++ l) (i ++ j) h in
        of_conversion o (pair_same (gathered p (in_order_front value k l first)) (gathered q (in_order_back value k l first)) (gathered x (in_order_front value i j second)) (gathered y (in_order_back value i j second)))
    gathered_forms (f_fst {o = o} p) h = of_conversion o (fst_same (gathered p h))
    gathered_forms (f_snd {o = o} p) h = of_conversion o (snd_same (gathered p h))

-- the other way
univ_same : {b : TermBodies} {x y : ℕ} → PartsConvert b (Univ x) (Univ y) → (x ≤ y) × (y ≤ x)
univ_same k_univ = (omega arith, omega arith)

pi_pair : {b : TermBodies} {a a' r r' : Term} → PartsConvert b (Pi tt a r) (Pi tt a' r') → Converts b a a' × Converts b r r'
pi_pair (k_pi p q) = (p, q)

sigma_pair : {b : TermBodies} {a a' r r' : Term} → PartsConvert b (Sigma tt a r) (Sigma tt a' r') → Converts b a a' × Converts b r r'
sigma_pair (k_sigma p q) = (p, q)

module _ (b : TermBodies) (closed : AreClosed b) where
  need_univ : (o : Order) (v : Assignment) (l m : Level) → Related o b (Univ (level_value v l)) (Univ (level_value v m)) → SatisfiesAll v (asked o l m)
  need_univ Cumulativity v l m h = (universes_invert b closed (level_value v l) (level_value v m) h, tt)
  need_univ Conversion v l m h = let s = univ_same (parts_convert b closed (Univ (level_value v l)) (Univ (level_value v m)) refl refl h) in (s.0, (s.1, tt))

  pub need_pi : (o : Order) (a a' r r' : Term) → Related o b (Pi tt a r) (Pi tt a' r') → Converts b a a' × Related o b r r'
  need_pi Cumulativity a a' r r' h = pi_inverts b closed a r a' r' h
  need_pi Conversion a a' r r' h = pi_pair (parts_convert b closed (Pi tt a r) (Pi tt a' r') refl refl h)

  pub need_sigma : (o : Order) (a a' r r' : Term) → Related o b (Sigma tt a r) (Sigma tt a' r') → Related o b a a' × Related o b r r'
  need_sigma Cumulativity a a' r r' h = sigma_inverts b closed a r a' r' h
  need_sigma Conversion a a' r r' h = sigma_pair (parts_convert b closed (Sigma tt a r) (Sigma tt a' r') refl refl h)

  -- the other forms convert in either order
  pub as_parts : (o : Order) (t u : Term) → IsHeadForm b t → IsHeadForm b u → Related o b t u → PartsBelow b t u
  as_parts Cumulativity t u e f h = (head_forms_compare b closed t u e f).0 h
  as_parts Conversion t u e f h = (head_forms_compare b closed t u e f).0 (Below.converts h)

pub lam_parts : {b : TermBodies} {a a' r r' : Term} → PartsBelow b (Lam tt a r) (Lam tt a' r') → Converts b a a' × Converts b r r'
lam_parts (at_lam p q) = (p, q)

pub app_parts : {b : TermBodies} {a a' r r' : Term} → PartsBelow b (App tt a r) (App tt a' r') → Converts b a a' × Converts b r r'
app_parts (at_app p q) = (p, q)

pub pair_parts : {b : TermBodies} {a a' r r' m m' n n' : Term} → PartsBelow b (Pair tt a r m n) (Pair tt a' r' m' n') → Converts b a a' × Converts b r r' × Converts b m m' × Converts b n n'
pair_parts (at_pair p q x y) = (p, q, x, y)

pub fst_parts : {b : TermBodies} {m m' : Term} → PartsBelow b (Fst m) (Fst m') → Converts b m m'
fst_parts (at_fst p) = p

pub snd_parts : {b : TermBodies} {m m' : Term} → PartsBelow b (Snd m) (Snd m') → Converts b m m'
snd_parts (at_snd p) = p

module _ (b : CoreBodies) (closed : AreClosed b) (v : Assignment) where
  at_closed : AreClosed (bodies_at v b)
  at_closed = closed_valued (level_value v) b closed

  pair_of : (o : Order) (t u : Core) → IsHeadForm (bodies_at v b) (at v t) → IsHeadForm (bodies_at v b) (at v u) → Related o (bodies_at v b) (at v t) (at v u) → PartsBelow (bodies_at v b) (at v t) (at v u)
  pair_of o t u = as_parts (bodies_at v b) at_closed o (at v t) (at v u)

  mutual
    pub needed : {o : Order} {t u : Core} {k : List LevelPair} → Compared b o t u k → Related o (bodies_at v b) (at v t) (at v u) → SatisfiesAll v k
    needed (m_equal e) h = tt
    needed (m_heads {o = o} _ p q c) h =
        needed_forms c (head_form_valued (level_value v) p) (head_form_valued (level_value v) q)
        (chain o _ _ _ _ _ (Converts.back (head_form_converts (level_value v) p)) h (head_form_converts (level_value v) q))

    needed_forms : {o : Order} {t u : Core} {k : List LevelPair} → FormsCompared b o t u k → IsHeadForm (bodies_at v b) (at v t) → IsHeadForm (bodies_at v b) (at v u) → Related o (bodies_at v b) (at v t) (at v u) → SatisfiesAll v k
    needed_forms f_var e f h = tt
    needed_forms f_const e f h = tt
    needed_forms f_prop e f h = tt
    needed_forms f_prop_univ e f h = tt
    needed_forms (f_univ {o = o} {l = l} {m = m}) e f h = need_univ (bodies_at v b) at_closed o v l m h
    needed_forms (f_pi {o = o} {k = k} {l = l} p q) e f h =
        let s = need_pi (bodies_at v b) at_closed o _ _ _ _ h in
        satisfies_append v k l (needed p s.0) (needed q s.1)
    needed_forms (f_lam {o = o} {x = x} {y = y} {a = a} {a' = a'} {r = r} {r' = r'} {k = k} {l = l} p q) e f h =
        let s = lam_parts (pair_of o (Lam x a r) (Lam y a' r') e f h) in
        satisfies_append v k l (needed p s.0) (needed q s.1)
    needed_forms (f_app {o = o} {x = x} {y = y} {a = a} {a' = a'} {r = r} {r' = r'} {k = k} {l = l} p q) e f h =
        let s = app_parts (pair_of o (App x a r) (App y a' r') e f h) in
        satisfies_append v k l (needed p s.0) (needed q s.1)
    needed_forms (f_sigma {o = o} {k = k} {l = l} p q) e f h =
        let s = need_sigma (bodies_at v b) at_closed o _ _ _ _ h in
        satisfies_append v k l (needed p s.0) (needed q s.1)
    needed_forms (f_pair {o = o} {x = x} {y = y} {a = a} {a' = a'} {r = r} {r' = r'} {m = m} {m' = m'} {n = n} {n' = n'} {k = k} {l = l} {p = i} {q = j} p q z w) e f h =
        let s = pair_parts (pair_of o (Pair x a r m n) (Pair y a' r' m' n') e f h) in
        satisfies_append v (k ++ l) (i ++ j) (satisfies_append v k l (needed p s.0) (needed q s.1)) (satisfies_append v i j (needed z s.2) (needed w s.3))
    needed_forms (f_fst {o = o} {m = m} {m' = m'} p) e f h = needed p (fst_parts (pair_of o (Fst m) (Fst m') e f h))
    needed_forms (f_snd {o = o} {m = m} {m' = m'} p) e f h = needed p (snd_parts (pair_of o (Snd m) (Snd m') e f h))

pub comparison_is_exact : ComparisonIsExact
comparison_is_exact b closed o t u k c v = (gathered (level_value v) c, needed b closed v c)
