-- More constants, closed terms, and valid entries.
use Rattle.std.proofs.Common.{◌≡◌, ℕ, suc, max, ◌≤◌, ◌<◌, length, Option, Some, None, List, [], ◌∷◌, refl, ap, ◌∙◌, arith, nat_eq, Bool, true, false, cond, option_map, option_and_then, subst, ◌⊎◌, inl, inr}
use Rattle.std.proofs.lemmas.Bool.Decides.{nat_tests}
use Rattle.lego_term.specs.Trees.{Term, Var, Const, Prop, Univ, Pi, Lam, App, Sigma, Pair, Fst, Snd, Let, loose, put, put_var, instantiate}
use Rattle.lego_laws.specs.Parallel.{TermBodies, AreClosed}
use Rattle.lego_term.specs.Steps.{Step, Contracts, Converts}
use Rattle.lego_term.specs.Below.{Below}
use Rattle.lego_laws.specs.Derivations.{HasLocal, Derives, d_prop, d_univ, d_var, d_const, d_pi_prop, d_pi, d_lam, d_app, d_sigma, d_pair, d_fst, d_snd, d_let, d_cum, ValidLocals, v_none, v_local, ValidConstants, types_of}
use Rattle.lego_laws.specs.Entries.{Constant, constant_of, bodies_of}
use Rattle.lego_laws.proofs.lemmas.typing.Rules.{ValidTypes, type_from}

-- what one has the other has
abbrev pub Extends : TermBodies → TermBodies → Type 0
Extends b b' = (k : ℕ) (t : Term) → b k ≡ Some t → b' k ≡ Some t

pub more_step : {b b' : TermBodies} → Extends b b' → {t u : Term} → Step b t u → Step b' t u
more_step x (Step.here Contracts.beta) = (Step.here Contracts.beta)
more_step x (Step.here Contracts.first) = (Step.here Contracts.first)
more_step x (Step.here Contracts.second) = (Step.here Contracts.second)
more_step x (Step.here Contracts.local) = (Step.here Contracts.local)
more_step x (Step.here (Contracts.unfolds {k = k} {m = t} e)) = Step.here (Contracts.unfolds (x k t e))
more_step x (Step.pi_domain s) = Step.pi_domain (more_step x s)
more_step x (Step.pi_body s) = Step.pi_body (more_step x s)
more_step x (Step.lam_domain s) = Step.lam_domain (more_step x s)
more_step x (Step.lam_body s) = Step.lam_body (more_step x s)
more_step x (Step.function s) = Step.function (more_step x s)
more_step x (Step.argument s) = Step.argument (more_step x s)
more_step x (Step.sigma_domain s) = Step.sigma_domain (more_step x s)
more_step x (Step.local_value s) = Step.local_value (more_step x s)
more_step x (Step.sigma_body s) = Step.sigma_body (more_step x s)
more_step x (Step.local_body s) = Step.local_body (more_step x s)
more_step x (Step.pair_domain s) = Step.pair_domain (more_step x s)
more_step x (Step.pair_body s) = Step.pair_body (more_step x s)
more_step x (Step.pair_first s) = Step.pair_first (more_step x s)
more_step x (Step.pair_second s) = Step.pair_second (more_step x s)
more_step x (Step.fst_operand s) = Step.fst_operand (more_step x s)
more_step x (Step.snd_operand s) = Step.snd_operand (more_step x s)

pub more_convert : {b b' : TermBodies} → Extends b b' → {t u : Term} → Converts b t u → Converts b' t u
more_convert x (Converts.step s) = Converts.step (more_step x s)
more_convert x Converts.same = Converts.same
more_convert x (Converts.back p) = Converts.back (more_convert x p)
more_convert x (Converts.chain p q) = Converts.chain (more_convert x p) (more_convert x q)

pub more_below : {b b' : TermBodies} → Extends b b' → {t u : Term} → Below b t u → Below b' t u
more_below x (Below.converts p) = Below.converts (more_convert x p)
more_below x Below.prop = Below.prop
more_below x Below.universe = Below.universe
more_below x (Below.pi p q) = Below.pi (more_convert x p) (more_below x q)
more_below x (Below.sigma p q) = Below.sigma (more_below x p) (more_below x q)
more_below x (Below.chain p q) = Below.chain (more_below x p) (more_below x q)

pub more_derives : {c c' b b' : TermBodies} → Extends c c' → Extends b b' → {g : List Term} {m a : Term} → Derives c b g m a → Derives c' b' g m a
more_derives x y d_prop = d_prop
more_derives x y d_univ = d_univ
more_derives x y (d_var l) = d_var l
more_derives x y (d_const {k = k} {a = a} e) = d_const (x k a e)
more_derives x y (d_pi_prop d e) = d_pi_prop (more_derives x y d) (more_derives x y e)
more_derives x y (d_pi d e) = d_pi (more_derives x y d) (more_derives x y e)
more_derives x y (d_lam d e) = d_lam (more_derives x y d) (more_derives x y e)
more_derives x y (d_app d e) = d_app (more_derives x y d) (more_derives x y e)
more_derives x y (d_sigma d e) = d_sigma (more_derives x y d) (more_derives x y e)
more_derives x y (d_pair d e m n) = d_pair (more_derives x y d) (more_derives x y e) (more_derives x y m) (more_derives x y n)
more_derives x y (d_fst d) = d_fst (more_derives x y d)
more_derives x y (d_snd d) = d_snd (more_derives x y d)
more_derives x y (d_let d e) = d_let (more_derives x y d) (more_derives x y e)
more_derives x y (d_cum d e l) = d_cum (more_derives x y d) (more_derives x y e) (more_below y l)

pub more_locals : {c c' b b' : TermBodies} → Extends c c' → Extends b b' → {g : List Term} → ValidLocals c b g → ValidLocals c' b' g
more_locals x y v_none = v_none
more_locals x y (v_local v d) = v_local (more_locals x y v) (more_derives x y d)

-- a typed term's loose variables are locals
local_within : {g : List Term} {i : ℕ} {a : Term} → HasLocal g i a → i < length g
local_within HasLocal.here = omega arith
local_within (HasLocal.there l) = let h = local_within l in omega arith

-- substitution takes no other variable away
put_var_before : (depth i : ℕ) (v : Term) → suc i ≤ suc (max depth (loose (put_var depth v i)))
put_var_before depth i v = grind (arith, nat_tests)

put_before : (depth : ℕ) (v t : Term) → loose t ≤ suc (max depth (loose (put depth v t)))
put_before depth v (Var i) = put_var_before depth i v
put_before depth v (Const k) = omega arith
put_before depth v Prop = omega arith
put_before depth v (Univ l) = omega arith
put_before depth v (Pi x a r) = omega (arith, put_before depth v a, put_before (suc depth) v r)
put_before depth v (Lam x a r) = omega (arith, put_before depth v a, put_before (suc depth) v r)
put_before depth v (App x a r) = omega (arith, put_before depth v a, put_before depth v r)
put_before depth v (Sigma x a r) = omega (arith, put_before depth v a, put_before (suc depth) v r)
put_before depth v (Pair x a r m n) = omega (arith, put_before depth v a, put_before (suc depth) v r, put_before depth v m, put_before depth v n)
put_before depth v (Fst m) = put_before depth v m
put_before depth v (Snd m) = put_before depth v m
put_before depth v (Let x m n) = omega (arith, put_before depth v m, put_before (suc depth) v n)

loose_before : (n m : Term) → loose n ≤ suc (loose (instantiate n m))
unfolding instantiate
loose_before n m = omega (arith, put_before 0 m n)

pub loose_within : {c b : TermBodies} {g : List Term} {m a : Term} → Derives c b g m a → loose m ≤ length g
loose_within d_prop = omega arith
loose_within d_univ = omega arith
loose_within (d_var l) = local_within l
loose_within (d_const e) = omega arith
loose_within (d_pi_prop d e) = omega (arith, loose_within d, loose_within e)
loose_within (d_pi d e) = omega (arith, loose_within d, loose_within e)
loose_within (d_lam d e) = omega (arith, loose_within d, loose_within e)
loose_within (d_app d e) = omega (arith, loose_within d, loose_within e)
loose_within (d_sigma d e) = omega (arith, loose_within d, loose_within e)
loose_within (d_pair d e m n) = omega (arith, loose_within d, loose_within e, loose_within m, loose_within n)
loose_within (d_fst d) = loose_within d
loose_within (d_snd d) = loose_within d
loose_within (d_let {m = m} {n = n} d e) = omega (arith, loose_within d, loose_within e, loose_before n m)
loose_within (d_cum d e l) = loose_within d

-- each body has its entry's type over the entries before it
abbrev pub HasItsType : List Constant → Option Term → Term → Type 0
HasItsType e None a = Unit {0}
HasItsType e (Some t) a = Derives (types_of e) (bodies_of e) [] t a

abbrev pub ValidBodies : List Constant → Type 0
ValidBodies [] = Unit {0}
ValidBodies (x ∷ e) = HasItsType e x.body x.ty × ValidBodies e

-- a new entry hides none
pub entry_kept : (x : Constant) (e : List Constant) → constant_of e x.number ≡ None → (k : ℕ) (y : Constant) → constant_of e k ≡ Some y → constant_of (x ∷ e) k ≡ Some y
entry_kept x e new k y h = grind (arith, nat_tests)

pub body_from : (o : Option Constant) (t : Term) → option_and_then (λ e. e.body) o ≡ Some t → (y : Constant) × (o ≡ Some y) × (y.body ≡ Some t)
body_from None t h = cc
body_from (Some y) t h = (y, refl, h)

pub types_kept : (x : Constant) (e : List Constant) → constant_of e x.number ≡ None → Extends (types_of e) (types_of (x ∷ e))
types_kept x e new k t h = let y = type_from (constant_of e k) t h in ap (option_map (λ (e : Constant). e.ty)) (entry_kept x e new k y.0 y.1) ∙ ap Some y.2

pub bodies_kept : (x : Constant) (e : List Constant) → constant_of e x.number ≡ None → Extends (bodies_of e) (bodies_of (x ∷ e))
bodies_kept x e new k t h = let y = body_from (constant_of e k) t h in ap (option_and_then (λ (e : Constant). e.body)) (entry_kept x e new k y.0 y.1) ∙ y.2

pub found : (o : Bool) (x y : Constant) (m : Option Constant) → cond o (Some x) m ≡ Some y → (x ≡ y) ⊎ (m ≡ Some y)
found true x y m h = inl (cc)
found false x y m h = inr h

-- what is known of an entry over those before it holds over the whole list
pub record Stands (e : List Constant) (x : Constant) : Type 0 where
  pub typed : (j : ℕ) × Derives (types_of e) (bodies_of e) [] x.ty (Univ j)
  pub body : HasItsType e x.body x.ty

body_more : (e e' : List Constant) (o : Option Term) (a : Term) → Extends (types_of e) (types_of e') → Extends (bodies_of e) (bodies_of e') → HasItsType e o a → HasItsType e' o a
body_more e e' None a x y h = tt
body_more e e' (Some t) a x y h = more_derives x y h

pub stands : (e : List Constant) → ValidTypes e → ValidBodies e → (k : ℕ) (y : Constant) → constant_of e k ≡ Some y → Stands e y
stands [] v w k y h = cc
stands (x ∷ e) (new, d, v) (t, w) k y h =
    let xt = types_kept x e new in
    let xb = bodies_kept x e new in
    let more : (z : Constant) → Stands e z → Stands (x ∷ e) z = λ z s. record { typed = (s.typed.0, more_derives xt xb s.typed.1); body = body_more e (x ∷ e) z.body z.ty xt xb s.body } in
    elim (found (nat_eq x.number k) x y (constant_of e k) h) [ inl same ↦ subst (Stands (x ∷ e)) same (more x (record { typed = d; body = t })) | inr old ↦ more y (stands e v w k y old) ]

pub valid_constants : (e : List Constant) → ValidTypes e → ValidBodies e → ValidConstants (types_of e) (bodies_of e)
valid_constants e v w =
    record {
      types = λ k a h.
          let y = type_from (constant_of e k) a h in
          let s = stands e v w k y.0 y.1 in
          (s.typed.0, subst (λ z. Derives (types_of e) (bodies_of e) [] z (Univ s.typed.0)) y.2 s.typed.1);
      bodies = λ k t h.
          let y = body_from (constant_of e k) t h in
          let s = stands e v w k y.0 y.1 in
          (y.0.ty, ap (option_map (λ (e : Constant). e.ty)) y.1, subst (λ o. HasItsType e o y.0.ty) y.2 s.body);
    }

pub types_closed : {c b : TermBodies} → ValidConstants c b → AreClosed c
types_closed v k t h = let d = v.types k t h in omega (arith, loose_within d.1)

pub bodies_closed : {c b : TermBodies} → ValidConstants c b → AreClosed b
bodies_closed v k t h = let d = v.bodies k t h in omega (arith, loose_within d.2)
