-- On valid lists the thirteen rules and the derivations over fixed constants give the same.
use Rattle.std.proofs.Common.{◌≡◌, ℕ, zero, suc, Option, None, Some, List, [], ◌∷◌, slice_get, option_map, refl, sym, ap, ◌∙◌, subst}
use Rattle.lego_term.specs.Trees.{Term, Var, Const, Univ, lift}
use Rattle.lego_laws.specs.Derivations.{types_of, HasLocal, Derives, d_prop, d_univ, d_var, d_const, d_pi_prop, d_pi, d_lam, d_app, d_sigma, d_pair, d_fst, d_snd, d_let, d_cum, ValidLocals, v_none, v_local}
use Rattle.lego_laws.specs.Entries.{Constant, constant_of, bodies_of}
use Rattle.lego_laws.specs.Judgement.{Valid, Has}
use Rattle.lego_laws.proofs.lemmas.reduction.Subst.{lift_more}

-- a local's type by its place in the list, and the other way round
pub local_at : (g : List Term) (i : ℕ) (a : Term) → slice_get g i ≡ Some a → HasLocal g i (lift 0 (suc i) a)
local_at [] i a e = cc
local_at (t ∷ g) zero a e = let is : t ≡ a = cc e in subst (λ z. HasLocal (t ∷ g) zero (lift 0 1 z)) is HasLocal.here
local_at (t ∷ g) (suc i) a e = subst (λ z. HasLocal (t ∷ g) (suc i) z) (lift_more (suc i) a) (HasLocal.there (local_at g i a e))

pub place_of : {g : List Term} {i : ℕ} {a : Term} → HasLocal g i a → (t : Term) × (slice_get g i ≡ Some t) × (a ≡ lift 0 (suc i) t)
place_of (HasLocal.here {a = a}) = (a, refl, refl)
place_of (HasLocal.there {i = i} l) = let h = place_of l in (h.0, h.1, ap (lift 0 1) h.2 ∙ lift_more (suc i) h.0)

pub type_in_list : (o : Option Constant) (e : Constant) → o ≡ Some e → option_map (λ e. e.ty) o ≡ Some e.ty
type_in_list o e p = ap (option_map (λ e. e.ty)) p

pub type_from : (o : Option Constant) (t : Term) → option_map (λ e. e.ty) o ≡ Some t → (y : Constant) × (o ≡ Some y) × (y.ty ≡ t)
type_from None t h = cc
type_from (Some y) t h = (y, refl, cc)

-- the numbers differ, and each type is a type over the constants before it
abbrev pub ValidTypes : List Constant → Type 0
ValidTypes [] = Unit {0}
ValidTypes (x ∷ e) = (constant_of e x.number ≡ None) × ((j : ℕ) × Derives (types_of e) (bodies_of e) [] x.ty (Univ j)) × ValidTypes e

pub record Known (e : List Constant) (g : List Term) : Type 0 where
  pub types : ValidTypes e
  pub locals : ValidLocals (types_of e) (bodies_of e) g

under : {e : List Constant} {g : List Term} {a : Term} → Known e (a ∷ g) → (j : ℕ) × Derives (types_of e) (bodies_of e) g a (Univ j) × Known e g
under k = go k.types k.locals
  where
    go : {e : List Constant} {g : List Term} {a : Term} → ValidTypes e → ValidLocals (types_of e) (bodies_of e) (a ∷ g) → (j : ℕ) × Derives (types_of e) (bodies_of e) g a (Univ j) × Known e g
    go ts (v_local {j = j} v d) = (j, d, record { types = ts; locals = v })

mutual
  pub known : {e : List Constant} {g : List Term} → Valid e g → Known e g
  known Valid.empty = record { types = tt; locals = v_none }
  known (Valid.grow_constant {j = j} d new) = let h = derived d in record { types = (new, (j, h.0), h.1.types); locals = v_none }
  known (Valid.grow_variable d) = let h = derived d in record { types = h.1.types; locals = v_local h.1.locals h.0 }

  pub derived : {e : List Constant} {g : List Term} {m a : Term} → Has e g m a → Derives (types_of e) (bodies_of e) g m a × Known e g
  derived (Has.ax v) = (d_prop, known v)
  derived (Has.universe v) = (d_univ, known v)
  derived (Has.variable {g = g} {i = i} {a = a} v l) = (d_var (local_at g i a l), known v)
  derived (Has.constant {es = es} {k = k} {e = e} v f) = (d_const (type_in_list (constant_of es k) e f), known v)
  derived (Has.pi_prop d) = let h = derived d in let u = under h.1 in (d_pi_prop u.1 h.0, u.2)
  derived (Has.pi_type d f) = let h = derived d in (d_pi h.0 (derived f).0, h.1)
  derived (Has.lambda d) = let h = derived d in let u = under h.1 in (d_lam u.1 h.0, u.2)
  derived (Has.application d f) = let h = derived d in (d_app h.0 (derived f).0, h.1)
  derived (Has.sigma d f) = let h = derived d in (d_sigma h.0 (derived f).0, h.1)
  derived (Has.pair d f r) = let h = derived r in let u = under h.1 in (d_pair u.1 h.0 (derived d).0 (derived f).0, u.2)
  derived (Has.first d) = let h = derived d in (d_fst h.0, h.1)
  derived (Has.second d) = let h = derived d in (d_snd h.0, h.1)
  derived (Has.local d f) = let h = derived d in (d_let h.0 (derived f).0, h.1)
  derived (Has.cumulative d f l) = let h = derived d in (d_cum h.0 (derived f).0 l, h.1)

variable_judged : {e : List Constant} {g : List Term} {i : ℕ} {a : Term} → HasLocal g i a → Valid e g → Has e g (Var i) a
variable_judged {e} {g} {i} l v = let h = place_of l in subst (λ z. Has e g (Var i) z) (sym h.2) (Has.variable v h.1)

constant_judged : {e : List Constant} {g : List Term} {k : ℕ} {a : Term} → types_of e k ≡ Some a → Valid e g → Has e g (Const k) a
constant_judged {e} {g} {k} {a} f v = let y = type_from (constant_of e k) a f in subst (λ z. Has e g (Const k) z) y.2 (Has.constant v y.1)

pub judged : {e : List Constant} {g : List Term} {m a : Term} → Derives (types_of e) (bodies_of e) g m a → Valid e g → Has e g m a
judged d_prop v = Has.ax v
judged d_univ v = Has.universe v
judged (d_var l) v = variable_judged l v
judged (d_const f) v = constant_judged f v
judged (d_pi_prop d f) v = Has.pi_prop (judged f (Valid.grow_variable (judged d v)))
judged (d_pi d f) v = let h = judged d v in Has.pi_type h (judged f (Valid.grow_variable h))
judged (d_lam d f) v = Has.lambda (judged f (Valid.grow_variable (judged d v)))
judged (d_app d f) v = Has.application (judged d v) (judged f v)
judged (d_sigma d f) v = let h = judged d v in Has.sigma h (judged f (Valid.grow_variable h))
judged (d_pair d r m n) v = Has.pair (judged m v) (judged n v) (judged r (Valid.grow_variable (judged d v)))
judged (d_fst d) v = Has.first (judged d v)
judged (d_snd d) v = Has.second (judged d v)
judged (d_let d f) v = Has.local (judged d v) (judged f v)
judged (d_cum d f l) v = Has.cumulative (judged d v) (judged f v) l

pub valid_types : (e : List Constant) → ValidTypes e → Valid e []
valid_types [] v = Valid.empty
valid_types (x ∷ e) v = Valid.grow_constant (judged v.1.1 (valid_types e v.2)) v.0

pub valid_locals : {e : List Constant} {g : List Term} → Valid e [] → ValidLocals (types_of e) (bodies_of e) g → Valid e g
valid_locals v v_none = v
valid_locals v (v_local w d) = Valid.grow_variable (judged d (valid_locals v w))

pub list_valid : {e : List Constant} {g : List Term} → Known e g → Valid e g
list_valid {e} k = valid_locals (valid_types e k.types) k.locals
