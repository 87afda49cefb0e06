-- The bound on the level variables of lifted and substituted terms, and of terms that steps reach.
use Rattle.std.proofs.Common.{◌≡◌, ℕ, ◌≤◌, max, Some, arith}
use Rattle.lego_term.specs.Trees.{Core, Var, Const, Prop, Univ, Pi, Lam, App, Sigma, Pair, Fst, Snd, lift, instantiate, Let}
use Rattle.lego_term.specs.Steps.{Step}
use Rattle.lego_laws.specs.Parallel.{CoreBodies, Star}
use Rattle.lego_laws.specs.Ranges.{level_bound, levels_bound}
use Rattle.lego_laws.proofs.lemmas.inference.LevelsKept.{Levels, levels_lifted, levels_put, levels_run}

-- the bound, as a bound on each level
module _ (top : ℕ) where
  each_within : (t : Core) → levels_bound t ≤ top → Levels (λ l. level_bound l ≤ top) t
  each_within (Var i) h = tt
  each_within (Const k) h = tt
  each_within Prop h = tt
  each_within (Univ l) h = h
  each_within (Pi x a r) h = (each_within a (omega arith), each_within r (omega arith))
  each_within (Lam x a m) h = (each_within a (omega arith), each_within m (omega arith))
  each_within (App k m n) h = (each_within m (omega arith), each_within n (omega arith))
  each_within (Sigma x a r) h = (each_within a (omega arith), each_within r (omega arith))
  each_within (Let x a r) h = (each_within a (omega arith), each_within r (omega arith))
  each_within (Pair x a r m n) h = (each_within a (omega arith), each_within r (omega arith), each_within m (omega arith), each_within n (omega arith))
  each_within (Fst m) h = each_within m h
  each_within (Snd m) h = each_within m h

  all_within : (t : Core) → Levels (λ l. level_bound l ≤ top) t → levels_bound t ≤ top
  all_within (Var i) h = omega arith
  all_within (Const k) h = omega arith
  all_within Prop h = omega arith
  all_within (Univ l) h = h
  all_within (Pi x a r) h = let i = all_within a h.0 in let j = all_within r h.1 in omega arith
  all_within (Lam x a m) h = let i = all_within a h.0 in let j = all_within m h.1 in omega arith
  all_within (App k m n) h = let i = all_within m h.0 in let j = all_within n h.1 in omega arith
  all_within (Sigma x a r) h = let i = all_within a h.0 in let j = all_within r h.1 in omega arith
  all_within (Let x a r) h = let i = all_within a h.0 in let j = all_within r h.1 in omega arith
  all_within (Pair x a r m n) h =
      let i = all_within a h.0 in
      let j = all_within r h.1 in
      let k = all_within m h.2 in
      let l = all_within n h.3 in
      omega arith
  all_within (Fst m) h = all_within m h
  all_within (Snd m) h = all_within m h

pub levels-lift : (from by : ℕ) (t : Core) → levels_bound (lift from by t) ≤ levels_bound t
levels-lift from by t =
    all_within (levels_bound t) (lift from by t) (levels_lifted (λ l. level_bound l ≤ levels_bound t) from by t (each_within (levels_bound t) t (omega arith)))

pub levels-instantiate : (m n : Core) → levels_bound (instantiate m n) ≤ max (levels_bound m) (levels_bound n)
unfolding instantiate
levels-instantiate m n =
    let top = max (levels_bound m) (levels_bound n) in
    all_within top (instantiate m n) (levels_put (λ l. level_bound l ≤ top) 0 n m (each_within top n (omega arith)) (each_within top m (omega arith)))

-- steps bring no level variable but those of the bodies
pub levels-star : {b : CoreBodies} (top : ℕ) → ((k : ℕ) (t : Core) → b k ≡ Some t → levels_bound t ≤ top) → {t u : Core} → Star (Step b) t u → levels_bound t ≤ top → levels_bound u ≤ top
levels-star {b} top h {t} {u} p l =
    all_within top u (levels_run (λ l. level_bound l ≤ top) b (λ k body e. each_within top body (h k body e)) p (each_within top t l))
