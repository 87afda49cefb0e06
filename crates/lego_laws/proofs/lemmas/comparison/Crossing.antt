-- Loose variables of parts, and of what faces one another.
use Rattle.std.proofs.Common.{◌≡◌, ℕ, zero, suc, ◌+◌, ◌≤◌, pred, Some, slice_get, subst, arith}
use Rattle.lego_term.specs.declared.binder.Binder.{Binder}
use Rattle.lego_term.specs.Trees.{Core, Pi, Lam, App, Sigma, Pair, Fst, Snd, Let, loose}
use Rattle.lego_term.specs.Parts.{Shape, APi, ALam, AnApp, ASigma, APair, AFst, ASnd, ALet, shape_of, Branch, plain_part, bound_part, parts_of}
use Rattle.lego_laws.specs.Parallel.{CoreBodies, AreClosed}
use Rattle.lego_laws.specs.Facing.{Order, crossed, Faces}
use Rattle.lego_laws.specs.Comparison.{FacingPartsAreScoped}
use Rattle.lego_laws.proofs.lemmas.principal.Scoped.{scoped_head}

-- whether the part of this number stands under a binder
binds : Shape → ℕ → ℕ
binds APi (suc zero) = 1
binds ALam (suc zero) = 1
binds ASigma (suc zero) = 1
binds APair (suc zero) = 1
binds ALet (suc zero) = 1
binds s i = 0

record IsScoped (c : Core) (k : ℕ) (p : Branch) : Type 0 where
  variables : loose p.term ≤ loose c + k
  binders : (n : ℕ) → crossed n p ≡ n + k

plain_scoped : (c m : Core) (p : Branch) → plain_part m ≡ p → loose m ≤ loose c → IsScoped c 0 p
plain_scoped c m p e le = subst (IsScoped c 0) e (record { variables = omega arith; binders = λ n. omega arith })

bound_scoped : (c m : Core) (x : Binder) (p : Branch) → bound_part x m ≡ p → pred (loose m) ≤ loose c → IsScoped c 1 p
bound_scoped c m x p e le = subst (IsScoped c 1) e (record { variables = omega arith; binders = λ n. omega arith })

part_scoped : (c : Core) (s : Shape) (i : ℕ) (p : Branch) → shape_of c ≡ Some s → slice_get (parts_of c) i ≡ Some p → IsScoped c (binds s i) p
unfolding binds
part_scoped (Pi x a b) APi zero p e f = plain_scoped (Pi x a b) a p (cc f) (omega arith)
part_scoped (Pi x a b) APi (suc zero) p e f = bound_scoped (Pi x a b) b x p (cc f) (omega arith)
part_scoped (Lam x a b) ALam zero p e f = plain_scoped (Lam x a b) a p (cc f) (omega arith)
part_scoped (Lam x a b) ALam (suc zero) p e f = bound_scoped (Lam x a b) b x p (cc f) (omega arith)
part_scoped (Sigma x a b) ASigma zero p e f = plain_scoped (Sigma x a b) a p (cc f) (omega arith)
part_scoped (Sigma x a b) ASigma (suc zero) p e f = bound_scoped (Sigma x a b) b x p (cc f) (omega arith)
part_scoped (Let x a b) ALet zero p e f = plain_scoped (Let x a b) a p (cc f) (omega arith)
part_scoped (Let x a b) ALet (suc zero) p e f = bound_scoped (Let x a b) b x p (cc f) (omega arith)
part_scoped (App k m n) AnApp zero p e f = plain_scoped (App k m n) m p (cc f) (omega arith)
part_scoped (App k m n) AnApp (suc zero) p e f = plain_scoped (App k m n) n p (cc f) (omega arith)
part_scoped (Pair x a b m n) APair zero p e f = plain_scoped (Pair x a b m n) a p (cc f) (omega arith)
part_scoped (Pair x a b m n) APair (suc zero) p e f = bound_scoped (Pair x a b m n) b x p (cc f) (omega arith)
part_scoped (Pair x a b m n) APair (suc (suc zero)) p e f = plain_scoped (Pair x a b m n) m p (cc f) (omega arith)
part_scoped (Pair x a b m n) APair (suc (suc (suc zero))) p e f = plain_scoped (Pair x a b m n) n p (cc f) (omega arith)
part_scoped (Fst m) AFst zero p e f = plain_scoped (Fst m) m p (cc f) (omega arith)
part_scoped (Snd m) ASnd zero p e f = plain_scoped (Snd m) m p (cc f) (omega arith)
part_scoped _ _ _ p e f = cc

module _ (b : CoreBodies) (closed : AreClosed b) where
  facing_scoped : {t u : Core} {o : Order} {n : ℕ} {h k : Core} → Faces b t u o n h k → (loose h ≤ loose t + n) × (loose k ≤ loose u + n)
  facing_scoped (Faces.root p q) = let i = scoped_head b closed p in let j = scoped_head b closed q in (omega arith, omega arith)
  facing_scoped (Faces.turn {n = n} {c = c} {d = d} {s = s} {p = p} {q = q} i f e e' x y l m) =
      let w = facing_scoped f in
      let w0 = w.0 in
      let w1 = w.1 in
      let pc = part_scoped c s i p e x in
      let qd = part_scoped d s i q e' y in
      let pv = pc.variables in
      let qv = qd.variables in
      let pb = pc.binders n in
      let hl = scoped_head b closed l in
      let kl = scoped_head b closed m in
      (omega arith, omega arith)

pub facing_parts_are_scoped : FacingPartsAreScoped
facing_parts_are_scoped b closed t u o n h k f = facing_scoped b closed f
