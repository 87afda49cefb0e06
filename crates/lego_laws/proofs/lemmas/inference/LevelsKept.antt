-- Steps bring no level but those of the bodies: what holds of each level before a step holds of each behind it.
use Rattle.std.proofs.Common.{◌≡◌, ℕ, suc, ◌-◌, Bool, true, false, nat_lt, nat_eq, if◌then◌else◌, Some}
use Rattle.lego_term.specs.declared.level.Level.{Level}
use Rattle.lego_term.specs.Trees.{Core, Var, Const, Prop, Univ, Pi, Lam, App, Sigma, Pair, Fst, Snd, lift, put, put_var, instantiate, Let}
use Rattle.lego_term.specs.Steps.{Contracts, Step}
use Rattle.lego_laws.specs.Parallel.{CoreBodies, Star, stop, go}

module _ (P : Level → Type 0) where
  -- it holds of each level of the tree
  abbrev pub Levels : Core → Type 0
  Levels (Var i) = Unit {0}
  Levels (Const k) = Unit {0}
  Levels Prop = Unit {0}
  Levels (Univ l) = P l
  Levels (Pi x a r) = Levels a × Levels r
  Levels (Lam x a m) = Levels a × Levels m
  Levels (App k m n) = Levels m × Levels n
  Levels (Sigma x a r) = Levels a × Levels r
  Levels (Let x a r) = Levels a × Levels r
  Levels (Pair x a r m n) = Levels a × Levels r × Levels m × Levels n
  Levels (Fst m) = Levels m
  Levels (Snd m) = Levels m

  pub levels_lifted : (from by : ℕ) (t : Core) → Levels t → Levels (lift from by t)
  levels_lifted from by (Var i) h = tt
  levels_lifted from by (Const k) h = tt
  levels_lifted from by Prop h = tt
  levels_lifted from by (Univ l) h = h
  levels_lifted from by (Pi x a r) h = (levels_lifted from by a h.0, levels_lifted (suc from) by r h.1)
  levels_lifted from by (Lam x a m) h = (levels_lifted from by a h.0, levels_lifted (suc from) by m h.1)
  levels_lifted from by (Sigma x a r) h = (levels_lifted from by a h.0, levels_lifted (suc from) by r h.1)
  levels_lifted from by (Let x a r) h = (levels_lifted from by a h.0, levels_lifted (suc from) by r h.1)
  levels_lifted from by (App k m n) h = (levels_lifted from by m h.0, levels_lifted from by n h.1)
  levels_lifted from by (Pair x a r m n) h =
      (levels_lifted from by a h.0, levels_lifted (suc from) by r h.1, levels_lifted from by m h.2, levels_lifted from by n h.3)
  levels_lifted from by (Fst m) h = levels_lifted from by m h
  levels_lifted from by (Snd m) h = levels_lifted from by m h

  levels_of_variable : (depth i : ℕ) (y : Core) → Levels y → Levels (put_var depth y i)
  levels_of_variable depth i y h = by_place (nat_lt i depth) (nat_eq i depth)
    where
      by_place : (c d : Bool) → Levels (if c then Var i else if d then lift 0 depth y else Var (i - 1))
      by_place true d = tt
      by_place false true = levels_lifted 0 depth y h
      by_place false false = tt

  pub levels_put : (depth : ℕ) (y t : Core) → Levels y → Levels t → Levels (put depth y t)
  levels_put depth y (Var i) g h = levels_of_variable depth i y g
  levels_put depth y (Const k) g h = tt
  levels_put depth y Prop g h = tt
  levels_put depth y (Univ l) g h = h
  levels_put depth y (Pi x a r) g h = (levels_put depth y a g h.0, levels_put (suc depth) y r g h.1)
  levels_put depth y (Lam x a m) g h = (levels_put depth y a g h.0, levels_put (suc depth) y m g h.1)
  levels_put depth y (Sigma x a r) g h = (levels_put depth y a g h.0, levels_put (suc depth) y r g h.1)
  levels_put depth y (Let x a r) g h = (levels_put depth y a g h.0, levels_put (suc depth) y r g h.1)
  levels_put depth y (App k m n) g h = (levels_put depth y m g h.0, levels_put depth y n g h.1)
  levels_put depth y (Pair x a r m n) g h =
      (levels_put depth y a g h.0, levels_put (suc depth) y r g h.1, levels_put depth y m g h.2, levels_put depth y n g h.3)
  levels_put depth y (Fst m) g h = levels_put depth y m g h
  levels_put depth y (Snd m) g h = levels_put depth y m g h

  module _ (b : CoreBodies) (of_bodies : (k : ℕ) (body : Core) → b k ≡ Some body → Levels body) where
    levels_contracted : {t u : Core} → Contracts b t u → Levels t → Levels u
    unfolding instantiate
    levels_contracted (Contracts.beta {m = m} {n = n}) h = levels_put 0 n m h.1 h.0.1
    levels_contracted Contracts.first h = h.2
    levels_contracted Contracts.second h = h.3
    levels_contracted (Contracts.local {m = m} {n = n}) h = levels_put 0 m n h.0 h.1
    levels_contracted (Contracts.unfolds {k = k} {m = m} e) h = of_bodies k m e

    pub levels_step : {t u : Core} → Step b t u → Levels t → Levels u
    levels_step (Step.here c) h = levels_contracted c h
    levels_step (Step.pi_domain s) h = (levels_step s h.0, h.1)
    levels_step (Step.pi_body s) h = (h.0, levels_step s h.1)
    levels_step (Step.lam_domain s) h = (levels_step s h.0, h.1)
    levels_step (Step.lam_body s) h = (h.0, levels_step s h.1)
    levels_step (Step.function s) h = (levels_step s h.0, h.1)
    levels_step (Step.argument s) h = (h.0, levels_step s h.1)
    levels_step (Step.sigma_domain s) h = (levels_step s h.0, h.1)
    levels_step (Step.local_value s) h = (levels_step s h.0, h.1)
    levels_step (Step.sigma_body s) h = (h.0, levels_step s h.1)
    levels_step (Step.local_body s) h = (h.0, levels_step s h.1)
    levels_step (Step.pair_domain s) h = (levels_step s h.0, h.1, h.2, h.3)
    levels_step (Step.pair_body s) h = (h.0, levels_step s h.1, h.2, h.3)
    levels_step (Step.pair_first s) h = (h.0, h.1, levels_step s h.2, h.3)
    levels_step (Step.pair_second s) h = (h.0, h.1, h.2, levels_step s h.3)
    levels_step (Step.fst_operand s) h = levels_step s h
    levels_step (Step.snd_operand s) h = levels_step s h

    pub levels_run : {t u : Core} → Star (Step b) t u → Levels t → Levels u
    levels_run stop h = h
    levels_run (go s p) h = levels_run p (levels_step s h)
