-- Lists of constants without local definitions, and the thirteen rules over them.
use Rattle.std.proofs.Common.{◌≡◌, ℕ, Bool, true, false, cond, nat_eq, Option, Some, None, option_map, option_and_then, List, [], ◌∷◌, map, refl, sym, ap, ◌∙◌, subst, arith}
use Rattle.std.proofs.lemmas.Bool.Decides.{nat_tests}
use mathlib.Core.Path.{fun_ext}
use Rattle.lego_term.specs.Trees.{Term, Var, Const}
use Rattle.lego_laws.specs.Parallel.{AreClosed}
use Rattle.lego_laws.specs.Entries.{Constant, constant_of, bodies_of}
use Rattle.lego_laws.specs.Judgement.{Valid, Has}
use Rattle.lego_laws.specs.Derivations.{types_of, HasLocal, Derives, ValidLocals, v_none, v_local}
use Rattle.lego_laws.specs.Expansion.{IsPureList, IsPure}
use Rattle.lego_laws.proofs.lemmas.typing.Rules.{ValidTypes, place_of, type_from}
use Rattle.lego_laws.proofs.lemmas.constants.Unlocal.{flat, flat_bodies, Pure, q_prop, q_univ, q_var, q_const, q_pi_prop, q_pi, q_lam, q_app, q_sigma, q_pair, q_fst, q_snd, q_cum, f-derives}

-- the constant without local definitions
abbrev pub flat_constant : Constant → Constant
flat_constant e = record { number = e.number; ty = flat e.ty; body = option_map flat e.body }

found_flat : (es : List Constant) (k : ℕ) → constant_of (map flat_constant es) k ≡ option_map flat_constant (constant_of es k)
found_flat [] k = refl
found_flat (e ∷ es) k = by_test (nat_eq e.number k) (found_flat es k)
  where
    by_test : (o : Bool) → constant_of (map flat_constant es) k ≡ option_map flat_constant (constant_of es k) → cond o (Some (flat_constant e)) (constant_of (map flat_constant es) k) ≡ option_map flat_constant (cond o (Some e) (constant_of es k))
    by_test true h = refl
    by_test false h = h

type_flat : (o : Option Constant) → option_map (λ e. e.ty) (option_map flat_constant o) ≡ option_map flat (option_map (λ e. e.ty) o)
type_flat None = refl
type_flat (Some e) = refl

body_flat : (o : Option Constant) → option_and_then (λ e. e.body) (option_map flat_constant o) ≡ option_map flat (option_and_then (λ e. e.body) o)
body_flat None = refl
body_flat (Some e) = refl

pub types_flat : (es : List Constant) → types_of (map flat_constant es) ≡ flat_bodies (types_of es)
types_flat es = fun_ext (λ k. ap (option_map (λ (e : Constant). e.ty)) (found_flat es k) ∙ type_flat (constant_of es k))

pub bodies_flat : (es : List Constant) → bodies_of (map flat_constant es) ≡ flat_bodies (bodies_of es)
bodies_flat es = fun_ext (λ k. ap (option_and_then (λ (e : Constant). e.body)) (found_flat es k) ∙ body_flat (constant_of es k))

-- a judgement by the thirteen rules
abbrev pub Judged : List Constant → List Term → Term → Term → Type 0
Judged es g m a = (d : Has es g m a) × IsPure d

module _ {e : List Constant} where
  variable_purely : {g : List Term} {i : ℕ} {a : Term} → HasLocal g i a → (v : Valid e g) → IsPureList v → Judged e g (Var i) a
  unfolding IsPure
  variable_purely {g} {i} l v p = let h = place_of l in subst (Judged e g (Var i)) (sym h.2) (Has.variable v h.1, p)

  constant_purely : {g : List Term} {k : ℕ} {a : Term} → types_of e k ≡ Some a → (v : Valid e g) → IsPureList v → Judged e g (Const k) a
  unfolding IsPure
  constant_purely {g} {k} {a} f v p = let y = type_from (constant_of e k) a f in subst (Judged e g (Const k)) y.2 (Has.constant v y.1, p)

  pub judged_purely : {g : List Term} {m a : Term} → Pure (types_of e) (bodies_of e) g m a → (v : Valid e g) → IsPureList v → Judged e g m a
  unfolding IsPure IsPureList
  judged_purely q_prop v p = (Has.ax v, p)
  judged_purely q_univ v p = (Has.universe v, p)
  judged_purely (q_var l) v p = variable_purely l v p
  judged_purely (q_const f) v p = constant_purely f v p
  judged_purely (q_pi_prop d f) v p = let h = judged_purely d v p in let k = judged_purely f (Valid.grow_variable h.0) h.1 in (Has.pi_prop k.0, k.1)
  judged_purely (q_pi d f) v p = let h = judged_purely d v p in let k = judged_purely f (Valid.grow_variable h.0) h.1 in (Has.pi_type h.0 k.0, (h.1, k.1))
  judged_purely (q_lam d f) v p = let h = judged_purely d v p in let k = judged_purely f (Valid.grow_variable h.0) h.1 in (Has.lambda k.0, k.1)
  judged_purely (q_app d f) v p = let h = judged_purely d v p in let k = judged_purely f v p in (Has.application h.0 k.0, (h.1, k.1))
  judged_purely (q_sigma d f) v p = let h = judged_purely d v p in let k = judged_purely f (Valid.grow_variable h.0) h.1 in (Has.sigma h.0 k.0, (h.1, k.1))
  judged_purely (q_pair d r m n) v p =
      let h = judged_purely d v p in
      let k = judged_purely r (Valid.grow_variable h.0) h.1 in
      let x = judged_purely m v p in
      let y = judged_purely n v p in
      (Has.pair x.0 y.0 k.0, (x.1, y.1, k.1))
  judged_purely (q_fst d) v p = let h = judged_purely d v p in (Has.first h.0, h.1)
  judged_purely (q_snd d) v p = let h = judged_purely d v p in (Has.second h.0, h.1)
  judged_purely (q_cum d f l) v p = let h = judged_purely d v p in let k = judged_purely f v p in (Has.cumulative h.0 k.0 l, (h.1, k.1))

-- a list that is valid by the thirteen rules
abbrev pub ListedPurely : List Constant → List Term → Type 0
ListedPurely es g = (v : Valid es g) × IsPureList v

flat_fresh : (es : List Constant) (n : ℕ) → constant_of es n ≡ None → constant_of (map flat_constant es) n ≡ None
flat_fresh es n h = found_flat es n ∙ ap (option_map flat_constant) h

moved_over : (es : List Constant) {g : List Term} {m a : Term} → Pure (flat_bodies (types_of es)) (flat_bodies (bodies_of es)) g m a → Pure (types_of (map flat_constant es)) (bodies_of (map flat_constant es)) g m a
moved_over es {g} {m} {a} d =
    subst (λ c. Pure c (bodies_of (map flat_constant es)) g m a) (sym (types_flat es)) (subst (λ b. Pure (flat_bodies (types_of es)) b g m a) (sym (bodies_flat es)) d)

pub over_flat : (es : List Constant) → AreClosed (flat_bodies (bodies_of es)) → {g : List Term} {m a : Term} → Derives (types_of es) (bodies_of es) g m a → Pure (types_of (map flat_constant es)) (bodies_of (map flat_constant es)) (map flat g) (flat m) (flat a)
over_flat es closed d = moved_over es (f-derives (types_of es) (bodies_of es) closed d)

-- no constant of the list has a body
abbrev pub no_bodies : (es : List Constant) → Type 0
no_bodies es = (k : ℕ) → bodies_of es k ≡ None

pub no_bodies_closed : (es : List Constant) → no_bodies es → AreClosed (flat_bodies (bodies_of es))
no_bodies_closed es h k t e = let z = h k in cc

pub pure_locals : (es : List Constant) → no_bodies es → {g : List Term} → ListedPurely (map flat_constant es) [] → ValidLocals (types_of es) (bodies_of es) g → ListedPurely (map flat_constant es) (map flat g)
unfolding IsPureList
pure_locals es none v v_none = v
pure_locals es none v (v_local w d) =
    let l = pure_locals es none v w in
    let h = judged_purely (over_flat es (no_bodies_closed es none) d) l.0 l.1 in
    (Valid.grow_variable h.0, h.1)

none_before_at : (x : Constant) (m : Option Constant) (o : Bool) → option_and_then (λ e. e.body) (cond o (Some x) m) ≡ None → (o ≡ true → m ≡ None) → option_and_then (λ e. e.body) m ≡ None
none_before_at x m true h k = ap (option_and_then (λ (e : Constant). e.body)) (k refl)
none_before_at x m false h k = h

none_before : (x : Constant) (es : List Constant) → no_bodies (x ∷ es) → constant_of es x.number ≡ None → no_bodies es
none_before x es h new k = none_before_at x (constant_of es k) (nat_eq x.number k) (h k) (λ e. same_number x.number k es e new)
  where
    same_number : (n k : ℕ) (es : List Constant) → nat_eq n k ≡ true → constant_of es n ≡ None → constant_of es k ≡ None
    same_number n k es e new = let is : n ≡ k = grind (arith, nat_tests) in subst (λ z. constant_of es z ≡ None) is new

-- a list without bodies stays valid, by the thirteen rules
pub pure_list : (es : List Constant) → ValidTypes es → no_bodies es → ListedPurely (map flat_constant es) []
unfolding IsPureList
pure_list [] v none = (Valid.empty, tt)
pure_list (x ∷ es) (new, (j, d), v) none =
    let before = none_before x es none new in
    let l = pure_list es v before in
    let h = judged_purely (over_flat es (no_bodies_closed es before) d) l.0 l.1 in
    (Valid.grow_constant h.0 (flat_fresh es x.number new), h.1)
