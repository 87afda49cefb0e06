-- What holds of each binder, each constant and each level of terms holds of those of what they come to by lifting, substitution
-- and steps.
use Rattle.std.proofs.Common.{◌≡◌, ℕ, suc, ◌-◌, Bool, true, false, nat_lt, nat_eq, if◌then◌else◌, Some}
use Rattle.lego_term.specs.declared.binder.Binder.{Binder}
use Rattle.lego_term.specs.declared.level.Level.{Level}
use Rattle.lego_term.specs.Trees.{Core, Var, Const, Prop, Univ, Pi, Lam, App, Sigma, Pair, Fst, Snd, Let, lift, put, put_var, instantiate}
use Rattle.lego_term.specs.Steps.{Contracts, Step}
use Rattle.lego_term.specs.Sequences.{HeadForm}
use Rattle.lego_laws.specs.Parallel.{CoreBodies, Star, stop, go}
use Rattle.lego_laws.proofs.lemmas.reduction.HeadSteps.{head_steps}
use Rattle.lego_inference.specs.Binders.{BinderKind, EachPart}

module _ (P : BinderKind → Binder → Type 0) (C : ℕ → Type 0) (L : Level → Type 0) where
  pub parts_lifted : (from by : ℕ) (t : Core) → EachPart P C L t → EachPart P C L (lift from by t)
  parts_lifted from by (Var i) h = tt
  parts_lifted from by (Const k) h = h
  parts_lifted from by Prop h = tt
  parts_lifted from by (Univ l) h = h
  parts_lifted from by (Pi x a r) h = (h.0, parts_lifted from by a h.1, parts_lifted (suc from) by r h.2)
  parts_lifted from by (Lam x a m) h = (h.0, parts_lifted from by a h.1, parts_lifted (suc from) by m h.2)
  parts_lifted from by (Sigma x a r) h = (h.0, parts_lifted from by a h.1, parts_lifted (suc from) by r h.2)
  parts_lifted from by (Let x a r) h = (h.0, parts_lifted from by a h.1, parts_lifted (suc from) by r h.2)
  parts_lifted from by (App k m n) h = (parts_lifted from by m h.0, parts_lifted from by n h.1)
  parts_lifted from by (Pair x a r m n) h =
      (h.0, parts_lifted from by a h.1, parts_lifted (suc from) by r h.2, parts_lifted from by m h.3, parts_lifted from by n h.4)
  parts_lifted from by (Fst m) h = parts_lifted from by m h
  parts_lifted from by (Snd m) h = parts_lifted from by m h

  parts_of_variable : (depth i : ℕ) (y : Core) → EachPart P C L y → EachPart P C L (put_var depth y i)
  parts_of_variable depth i y h = by_place (nat_lt i depth) (nat_eq i depth)
    where
      by_place : (c d : Bool) → EachPart P C L (if c then Var i else if d then lift 0 depth y else Var (i - 1))
      by_place true d = tt
      by_place false true = parts_lifted 0 depth y h
      by_place false false = tt

  parts_put : (depth : ℕ) (y t : Core) → EachPart P C L y → EachPart P C L t → EachPart P C L (put depth y t)
  parts_put depth y (Var i) g h = parts_of_variable depth i y g
  parts_put depth y (Const k) g h = h
  parts_put depth y Prop g h = tt
  parts_put depth y (Univ l) g h = h
  parts_put depth y (Pi x a r) g h = (h.0, parts_put depth y a g h.1, parts_put (suc depth) y r g h.2)
  parts_put depth y (Lam x a m) g h = (h.0, parts_put depth y a g h.1, parts_put (suc depth) y m g h.2)
  parts_put depth y (Sigma x a r) g h = (h.0, parts_put depth y a g h.1, parts_put (suc depth) y r g h.2)
  parts_put depth y (Let x a r) g h = (h.0, parts_put depth y a g h.1, parts_put (suc depth) y r g h.2)
  parts_put depth y (App k m n) g h = (parts_put depth y m g h.0, parts_put depth y n g h.1)
  parts_put depth y (Pair x a r m n) g h =
      (h.0, parts_put depth y a g h.1, parts_put (suc depth) y r g h.2, parts_put depth y m g h.3, parts_put depth y n g h.4)
  parts_put depth y (Fst m) g h = parts_put depth y m g h
  parts_put depth y (Snd m) g h = parts_put depth y m g h

  pub parts-instantiate : (m n : Core) → EachPart P C L m → EachPart P C L n → EachPart P C L (instantiate m n)
  unfolding instantiate
  parts-instantiate m n h g = parts_put 0 n m g h

  module _ (b : CoreBodies) (of_bodies : (k : ℕ) (body : Core) → b k ≡ Some body → EachPart P C L body) where
    parts_contracted : {t u : Core} → Contracts b t u → EachPart P C L t → EachPart P C L u
    parts_contracted (Contracts.beta {m = m} {n = n}) h = parts-instantiate m n h.0.2 h.1
    parts_contracted Contracts.first h = h.3
    parts_contracted Contracts.second h = h.4
    parts_contracted (Contracts.local {m = m} {n = n}) h = parts-instantiate n m h.2 h.1
    parts_contracted (Contracts.unfolds {k = k} {m = m} e) h = of_bodies k m e

    parts_step : {t u : Core} → Step b t u → EachPart P C L t → EachPart P C L u
    parts_step (Step.here c) h = parts_contracted c h
    parts_step (Step.pi_domain s) h = (h.0, parts_step s h.1, h.2)
    parts_step (Step.pi_body s) h = (h.0, h.1, parts_step s h.2)
    parts_step (Step.lam_domain s) h = (h.0, parts_step s h.1, h.2)
    parts_step (Step.lam_body s) h = (h.0, h.1, parts_step s h.2)
    parts_step (Step.function s) h = (parts_step s h.0, h.1)
    parts_step (Step.argument s) h = (h.0, parts_step s h.1)
    parts_step (Step.sigma_domain s) h = (h.0, parts_step s h.1, h.2)
    parts_step (Step.sigma_body s) h = (h.0, h.1, parts_step s h.2)
    parts_step (Step.local_value s) h = (h.0, parts_step s h.1, h.2)
    parts_step (Step.local_body s) h = (h.0, h.1, parts_step s h.2)
    parts_step (Step.pair_domain s) h = (h.0, parts_step s h.1, h.2, h.3, h.4)
    parts_step (Step.pair_body s) h = (h.0, h.1, parts_step s h.2, h.3, h.4)
    parts_step (Step.pair_first s) h = (h.0, h.1, h.2, parts_step s h.3, h.4)
    parts_step (Step.pair_second s) h = (h.0, h.1, h.2, h.3, parts_step s h.4)
    parts_step (Step.fst_operand s) h = parts_step s h
    parts_step (Step.snd_operand s) h = parts_step s h

    pub parts_run : {t u : Core} → Star (Step b) t u → EachPart P C L t → EachPart P C L u
    parts_run stop h = h
    parts_run (go s p) h = parts_run p (parts_step s h)

    pub parts_head : {t h : Core} → HeadForm b t h → EachPart P C L t → EachPart P C L h
    parts_head {t} {h} p each = parts_run (head_steps b p.0 t h p.1.reaches) each

-- what follows from what holds of each part holds of each part too
module _ {P P' : BinderKind → Binder → Type 0} {C C' : ℕ → Type 0} {L L' : Level → Type 0} (binder : (kind : BinderKind) (x : Binder) → P kind x → P' kind x) (constant : (k : ℕ) → C k → C' k) (level : (l : Level) → L l → L' l) where
  pub parts_follow : (t : Core) → EachPart P C L t → EachPart P' C' L' t
  parts_follow (Var i) h = tt
  parts_follow (Const k) h = constant k h
  parts_follow Prop h = tt
  parts_follow (Univ l) h = level l h
  parts_follow (Pi x a r) h = (binder BinderKind.OfFunction x h.0, parts_follow a h.1, parts_follow r h.2)
  parts_follow (Lam x a m) h = (binder BinderKind.OfFunction x h.0, parts_follow a h.1, parts_follow m h.2)
  parts_follow (Sigma x a r) h = (binder BinderKind.OfPair x h.0, parts_follow a h.1, parts_follow r h.2)
  parts_follow (Let x m n) h = (binder BinderKind.OfLocal x h.0, parts_follow m h.1, parts_follow n h.2)
  parts_follow (App k m n) h = (parts_follow m h.0, parts_follow n h.1)
  parts_follow (Pair x a r m n) h = (binder BinderKind.OfPair x h.0, parts_follow a h.1, parts_follow r h.2, parts_follow m h.3, parts_follow n h.4)
  parts_follow (Fst m) h = parts_follow m h
  parts_follow (Snd m) h = parts_follow m h
