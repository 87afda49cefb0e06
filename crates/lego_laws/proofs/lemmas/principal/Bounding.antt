-- Each derivation is bounded by some number.
use Rattle.std.proofs.Common.{ℕ, suc, ◌+◌, ◌≤◌, List, arith}
use Rattle.lego_term.specs.Trees.{Term}
use Rattle.lego_laws.specs.Parallel.{TermBodies}
use Rattle.lego_laws.specs.Derivations.{Derives, d_prop, d_univ, d_var, d_const, d_pi_prop, d_pi, d_lam, d_app, d_sigma, d_pair, d_fst, d_snd, d_cum, d_let}
use Rattle.lego_laws.specs.Ranges.{Bounded, b_prop, b_univ, b_var, b_const, b_pi_prop, b_pi, b_lam, b_app, b_sigma, b_pair, b_fst, b_snd, b_let, b_cum}

pub bounded_more : {t : ℕ} {c b : TermBodies} {g : List Term} {m a : Term} (s : ℕ) → t ≤ s → Bounded t c b g m a → Bounded s c b g m a
bounded_more s le b_prop = b_prop
bounded_more s le (b_univ l) = b_univ (omega arith)
bounded_more s le (b_var l) = b_var l
bounded_more s le (b_const e) = b_const e
bounded_more s le (b_pi_prop d e) = b_pi_prop (bounded_more s le d) (bounded_more s le e)
bounded_more s le (b_pi l d e) = b_pi (omega arith) (bounded_more s le d) (bounded_more s le e)
bounded_more s le (b_lam d e) = b_lam (bounded_more s le d) (bounded_more s le e)
bounded_more s le (b_app d e) = b_app (bounded_more s le d) (bounded_more s le e)
bounded_more s le (b_sigma l d e) = b_sigma (omega arith) (bounded_more s le d) (bounded_more s le e)
bounded_more s le (b_pair d e m n) = b_pair (bounded_more s le d) (bounded_more s le e) (bounded_more s le m) (bounded_more s le n)
bounded_more s le (b_fst d) = b_fst (bounded_more s le d)
bounded_more s le (b_snd d) = b_snd (bounded_more s le d)
bounded_more s le (b_let d e) = b_let (bounded_more s le d) (bounded_more s le e)
bounded_more s le (b_cum d l) = b_cum (bounded_more s le d) l

pub record HasBound (c b : TermBodies) (g : List Term) (m a : Term) : Type 0 where
  pub t : ℕ
  pub bounded : Bounded t c b g m a

pub bound_of : {c b : TermBodies} {g : List Term} {m a : Term} → Derives c b g m a → HasBound c b g m a
bound_of d_prop = record { t = 0; bounded = b_prop }
bound_of (d_univ {j = j}) = record { t = suc j; bounded = b_univ (omega arith) }
bound_of (d_var l) = record { t = 0; bounded = b_var l }
bound_of (d_const e) = record { t = 0; bounded = b_const e }
bound_of (d_pi_prop d e) =
    let h = bound_of d in
    let k = bound_of e in
    record { t = h.t + k.t; bounded = b_pi_prop (bounded_more (h.t + k.t) (omega arith) h.bounded) (bounded_more (h.t + k.t) (omega arith) k.bounded) }
bound_of (d_pi {j = j} d e) =
    let h = bound_of d in
    let k = bound_of e in
    record { t = h.t + k.t + j; bounded = b_pi (omega arith) (bounded_more (h.t + k.t + j) (omega arith) h.bounded) (bounded_more (h.t + k.t + j) (omega arith) k.bounded) }
bound_of (d_lam d e) =
    let h = bound_of d in
    let k = bound_of e in
    record { t = h.t + k.t; bounded = b_lam (bounded_more (h.t + k.t) (omega arith) h.bounded) (bounded_more (h.t + k.t) (omega arith) k.bounded) }
bound_of (d_app d e) =
    let h = bound_of d in
    let k = bound_of e in
    record { t = h.t + k.t; bounded = b_app (bounded_more (h.t + k.t) (omega arith) h.bounded) (bounded_more (h.t + k.t) (omega arith) k.bounded) }
bound_of (d_sigma {j = j} d e) =
    let h = bound_of d in
    let k = bound_of e in
    record { t = h.t + k.t + j; bounded = b_sigma (omega arith) (bounded_more (h.t + k.t + j) (omega arith) h.bounded) (bounded_more (h.t + k.t + j) (omega arith) k.bounded) }
bound_of (d_pair d e m n) =
    let h = bound_of d in
    let k = bound_of e in
    let p = bound_of m in
    let q = bound_of n in
    let t = h.t + k.t + p.t + q.t in
    record { t = t; bounded = b_pair (bounded_more t (omega arith) h.bounded) (bounded_more t (omega arith) k.bounded) (bounded_more t (omega arith) p.bounded) (bounded_more t (omega arith) q.bounded) }
bound_of (d_fst d) = let h = bound_of d in record { t = h.t; bounded = b_fst h.bounded }
bound_of (d_snd d) = let h = bound_of d in record { t = h.t; bounded = b_snd h.bounded }
bound_of (d_let d e) =
    let h = bound_of d in
    let k = bound_of e in
    record { t = h.t + k.t; bounded = b_let (bounded_more (h.t + k.t) (omega arith) h.bounded) (bounded_more (h.t + k.t) (omega arith) k.bounded) }
bound_of (d_cum d e l) = let h = bound_of d in record { t = h.t; bounded = b_cum h.bounded l }
