-- A derivation by the rules is bounded by its greatest universe.
use Rattle.std.proofs.Common.{ℕ, ◌≤◌, List, [], ◌∷◌, arith}
use Rattle.lego_term.specs.Trees.{Term, Univ, Sigma, Pair, instantiate}
use Rattle.lego_laws.specs.Entries.{Constant, constant_of, bodies_of}
use Rattle.lego_laws.specs.Judgement.{Valid, Has}
use Rattle.lego_laws.specs.Derivations.{types_of}
use Rattle.lego_laws.specs.Fitting.{top, top_valid}
use Rattle.lego_laws.specs.Ranges.{Bounded, b_prop, b_univ, b_var, b_const, b_pi_prop, b_pi, b_lam, b_app, b_sigma, b_pair, b_fst, b_snd, b_let, b_cum}
use Rattle.lego_laws.proofs.lemmas.typing.Rules.{local_at, type_in_list}
use Rattle.lego_laws.proofs.lemmas.principal.Highest.{has_under}

-- the local types, each bounded
data Locals (limit : ℕ) (e : List Constant) : List Term → Type 0 where
  l_none : Locals limit e []
  l_more : {g : List Term} {a : Term} {j : ℕ} → Bounded limit (types_of e) (bodies_of e) g a (Univ j) → Locals limit e g → Locals limit e (a ∷ g)

Within : ℕ → List Constant → List Term → Term → Term → Type 0
Within limit e g m a = Bounded limit (types_of e) (bodies_of e) g m a × Locals limit e g

opened : {limit : ℕ} {e : List Constant} {g : List Term} {a : Term} → Locals limit e (a ∷ g) → (j : ℕ) × Bounded limit (types_of e) (bodies_of e) g a (Univ j) × Locals limit e g
opened (l_more {j = j} d l) = (j, d, l)

pair_case : {limit : ℕ} {e : List Constant} {g : List Term} {a b m n : Term} {j : ℕ} → Bounded limit (types_of e) (bodies_of e) (a ∷ g) b (Univ j) → Locals limit e (a ∷ g) → Bounded limit (types_of e) (bodies_of e) g m a → Bounded limit (types_of e) (bodies_of e) g n (instantiate b m) → Bounded limit (types_of e) (bodies_of e) g (Pair tt a b m n) (Sigma tt a b) × Locals limit e g
pair_case h l p q = let o = opened l in (b_pair o.1 h p q, o.2)

mutual
  unfolding Within top top_valid

  locals_bounded : (limit : ℕ) {e : List Constant} {g : List Term} (v : Valid e g) → top_valid v ≤ limit → Locals limit e g
  locals_bounded limit Valid.empty le = l_none
  locals_bounded limit (Valid.grow_constant d new) le = l_none
  locals_bounded limit (Valid.grow_variable d) le = let h = bounded_within limit d le in l_more h.0 h.1

  bounded_within : (limit : ℕ) {e : List Constant} {g : List Term} {m a : Term} (d : Has e g m a) → top d ≤ limit → Within limit e g m a
  bounded_within limit (Has.ax v) le = (b_prop, locals_bounded limit v le)
  bounded_within limit (Has.universe v) le = (b_univ (omega arith), locals_bounded limit v (omega arith))
  bounded_within limit (Has.variable {g = g} {i = i} {a = a} v l) le = (b_var (local_at g i a l), locals_bounded limit v (omega arith))
  bounded_within limit (Has.constant {es = es} {k = k} {e = e} v f) le = (b_const (type_in_list (constant_of es k) e f), locals_bounded limit v (omega arith))
  bounded_within limit (Has.pi_prop d) le = let h = bounded_within limit d le in let o = opened h.1 in (b_pi_prop o.1 h.0, o.2)
  bounded_within limit (Has.pi_type {j = j} d f) le =
      let h = bounded_within limit d (omega arith) in
      let u = (has_under limit d (omega arith)).type in
      (b_pi u h.0 (bounded_within limit f (omega arith)).0, h.1)
  bounded_within limit (Has.lambda d) le = let h = bounded_within limit d le in let o = opened h.1 in (b_lam o.1 h.0, o.2)
  bounded_within limit (Has.application d f) le = let h = bounded_within limit d (omega arith) in (b_app h.0 (bounded_within limit f (omega arith)).0, h.1)
  bounded_within limit (Has.sigma d f) le =
      let h = bounded_within limit d (omega arith) in
      let u = (has_under limit d (omega arith)).type in
      (b_sigma u h.0 (bounded_within limit f (omega arith)).0, h.1)
  bounded_within limit (Has.pair d f r) le =
      let h = bounded_within limit r (omega arith) in
      pair_case h.0 h.1 (bounded_within limit d (omega arith)).0 (bounded_within limit f (omega arith)).0
  bounded_within limit (Has.first d) le = let h = bounded_within limit d le in (b_fst h.0, h.1)
  bounded_within limit (Has.second d) le = let h = bounded_within limit d le in (b_snd h.0, h.1)
  bounded_within limit (Has.local d f) le = let h = bounded_within limit d (omega arith) in (b_let h.0 (bounded_within limit f (omega arith)).0, h.1)
  bounded_within limit (Has.cumulative d f l) le = let h = bounded_within limit d (omega arith) in (b_cum h.0 l, h.1)

-- the working derivation of a judgement, with the bound
pub bounded : {e : List Constant} {g : List Term} {m a : Term} (d : Has e g m a) → Bounded (top d) (types_of e) (bodies_of e) g m a
unfolding Within
bounded d = (bounded_within (top d) d (omega arith)).0
