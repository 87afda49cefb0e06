-- The loose variables of the corresponding pair are locals, and variables of the binders crossed.
use Rattle.std.proofs.Common.{◌≡◌, ℕ, zero, suc, ◌+◌, ◌≤◌, Option, Some, None, List, [], length, slice_get, refl, ap, subst, arith}
use Rattle.lego_term.specs.declared.binder.Binder.{Binder}
use Rattle.lego_term.specs.Trees.{Core, Pi, Lam, App, Sigma, Pair, Fst, Snd, Let, loose}
use Rattle.lego_term.specs.Parts.{Shape, APi, ALam, AnApp, ASigma, APair, AFst, ASnd, ALet, shape_of, Branch, parts_of}
use Rattle.lego_term.specs.Sequences.{head_step, normal_step, after}
use Rattle.lego_term.specs.BodyMap.{BodyMap, bodies_in, AreClosed}
use Rattle.lego_laws.proofs.lemmas.reduction.After.{next}
use Rattle.lego_laws.proofs.lemmas.reduction.NormalSteps.{normal_step-step}
use Rattle.lego_laws.proofs.lemmas.reduction.HeadSteps.{head_step-step}
use Rattle.lego_laws.proofs.lemmas.principal.Scoped.{scoped_step}
use Rattle.lego_match.specs.Holes.{FreeHoles}
use Rattle.lego_match.specs.Pairs.{inside, Corresponds, here, turn}

pub loose_heads : (bodies : BodyMap) → AreClosed bodies → (n : ℕ) (t u : Core) → after (head_step (bodies_in bodies)) n t ≡ Some u → loose u ≤ loose t
loose_heads bodies closed n t u e = scoped_reached n t u e
  where
    scoped_reached : (n : ℕ) (t u : Core) → after (head_step (bodies_in bodies)) n t ≡ Some u → loose u ≤ loose t
    scoped_reached zero t u e = let s : t ≡ u = cc e in let l = ap (λ (z : Core). loose z) s in omega arith
    scoped_reached (suc n) t u e =
        let k = next (head_step (bodies_in bodies)) n (head_step (bodies_in bodies) t) u e in
        let first = scoped_step (bodies_in bodies) closed (head_step-step (bodies_in bodies) t k.0 k.1) in
        let rest = scoped_reached n k.0 u k.2 in
        omega arith

pub loose_normal : (bodies : BodyMap) → AreClosed bodies → (n : ℕ) (t u : Core) → after (normal_step (bodies_in bodies)) n t ≡ Some u → loose u ≤ loose t
loose_normal bodies closed zero t u e = let s : t ≡ u = cc e in let l = ap (λ (z : Core). loose z) s in omega arith
loose_normal bodies closed (suc n) t u e =
    let k = next (normal_step (bodies_in bodies)) n (normal_step (bodies_in bodies) t) u e in
    let first = scoped_step (bodies_in bodies) closed (normal_step-step (bodies_in bodies) t k.0 k.1) in
    let rest = loose_normal bodies closed n k.0 u k.2 in
    omega arith

-- a part has one loose variable more, where it stands under a binder
pub loose_part : (t : Core) (i : ℕ) (p : Branch) → slice_get (parts_of t) i ≡ Some p → loose p.term ≤ loose t + length (inside p.under [])
loose_part (Pi x a r) zero p e = let s : record { under = None; term = a } ≡ p = cc in subst (λ (z : Branch). loose z.term ≤ loose (Pi x a r) + length (inside z.under [])) s (omega arith)
loose_part (Pi x a r) (suc zero) p e = let s : record { under = Some x; term = r } ≡ p = cc in subst (λ (z : Branch). loose z.term ≤ loose (Pi x a r) + length (inside z.under [])) s (omega arith)
loose_part (Lam x a r) zero p e = let s : record { under = None; term = a } ≡ p = cc in subst (λ (z : Branch). loose z.term ≤ loose (Lam x a r) + length (inside z.under [])) s (omega arith)
loose_part (Lam x a r) (suc zero) p e = let s : record { under = Some x; term = r } ≡ p = cc in subst (λ (z : Branch). loose z.term ≤ loose (Lam x a r) + length (inside z.under [])) s (omega arith)
loose_part (App k m n) zero p e = let s : record { under = None; term = m } ≡ p = cc in subst (λ (z : Branch). loose z.term ≤ loose (App k m n) + length (inside z.under [])) s (omega arith)
loose_part (App k m n) (suc zero) p e = let s : record { under = None; term = n } ≡ p = cc in subst (λ (z : Branch). loose z.term ≤ loose (App k m n) + length (inside z.under [])) s (omega arith)
loose_part (Sigma x a r) zero p e = let s : record { under = None; term = a } ≡ p = cc in subst (λ (z : Branch). loose z.term ≤ loose (Sigma x a r) + length (inside z.under [])) s (omega arith)
loose_part (Sigma x a r) (suc zero) p e = let s : record { under = Some x; term = r } ≡ p = cc in subst (λ (z : Branch). loose z.term ≤ loose (Sigma x a r) + length (inside z.under [])) s (omega arith)
loose_part (Pair x a r m n) zero p e = let s : record { under = None; term = a } ≡ p = cc in subst (λ (z : Branch). loose z.term ≤ loose (Pair x a r m n) + length (inside z.under [])) s (omega arith)
loose_part (Pair x a r m n) (suc zero) p e = let s : record { under = Some x; term = r } ≡ p = cc in subst (λ (z : Branch). loose z.term ≤ loose (Pair x a r m n) + length (inside z.under [])) s (omega arith)
loose_part (Pair x a r m n) (suc (suc zero)) p e = let s : record { under = None; term = m } ≡ p = cc in subst (λ (z : Branch). loose z.term ≤ loose (Pair x a r m n) + length (inside z.under [])) s (omega arith)
loose_part (Pair x a r m n) (suc (suc (suc zero))) p e = let s : record { under = None; term = n } ≡ p = cc in subst (λ (z : Branch). loose z.term ≤ loose (Pair x a r m n) + length (inside z.under [])) s (omega arith)
loose_part (Fst m) zero p e = let s : record { under = None; term = m } ≡ p = cc in subst (λ (z : Branch). loose z.term ≤ loose (Fst m) + length (inside z.under [])) s (omega arith)
loose_part (Snd m) zero p e = let s : record { under = None; term = m } ≡ p = cc in subst (λ (z : Branch). loose z.term ≤ loose (Snd m) + length (inside z.under [])) s (omega arith)
loose_part (Let x m n) zero p e = let s : record { under = None; term = m } ≡ p = cc in subst (λ (z : Branch). loose z.term ≤ loose (Let x m n) + length (inside z.under [])) s (omega arith)
loose_part (Let x m n) (suc zero) p e = let s : record { under = Some x; term = n } ≡ p = cc in subst (λ (z : Branch). loose z.term ≤ loose (Let x m n) + length (inside z.under [])) s (omega arith)
loose_part _ _ p e = cc

-- how many binders stand above the numbered part of a form
abbrev binders_above : Shape → ℕ → ℕ
binders_above APi (suc zero) = 1
binders_above ALam (suc zero) = 1
binders_above ASigma (suc zero) = 1
binders_above APair (suc zero) = 1
binders_above ALet (suc zero) = 1
binders_above _ _ = 0

above : (t : Core) (s : Shape) (i : ℕ) (p : Branch) → shape_of t ≡ Some s → slice_get (parts_of t) i ≡ Some p → length (inside p.under []) ≡ binders_above s i
above (Pi x a r) s zero p f e = let o : None ≡ p.under = cc in let z : APi ≡ s = cc in rw (← o, ← z) refl
above (Pi x a r) s (suc zero) p f e = let o : Some x ≡ p.under = cc in let z : APi ≡ s = cc in rw (← o, ← z) refl
above (Lam x a r) s zero p f e = let o : None ≡ p.under = cc in let z : ALam ≡ s = cc in rw (← o, ← z) refl
above (Lam x a r) s (suc zero) p f e = let o : Some x ≡ p.under = cc in let z : ALam ≡ s = cc in rw (← o, ← z) refl
above (App k m n) s zero p f e = let o : None ≡ p.under = cc in let z : AnApp ≡ s = cc in rw (← o, ← z) refl
above (App k m n) s (suc zero) p f e = let o : None ≡ p.under = cc in let z : AnApp ≡ s = cc in rw (← o, ← z) refl
above (Sigma x a r) s zero p f e = let o : None ≡ p.under = cc in let z : ASigma ≡ s = cc in rw (← o, ← z) refl
above (Sigma x a r) s (suc zero) p f e = let o : Some x ≡ p.under = cc in let z : ASigma ≡ s = cc in rw (← o, ← z) refl
above (Pair x a r m n) s zero p f e = let o : None ≡ p.under = cc in let z : APair ≡ s = cc in rw (← o, ← z) refl
above (Pair x a r m n) s (suc zero) p f e = let o : Some x ≡ p.under = cc in let z : APair ≡ s = cc in rw (← o, ← z) refl
above (Pair x a r m n) s (suc (suc zero)) p f e = let o : None ≡ p.under = cc in let z : APair ≡ s = cc in rw (← o, ← z) refl
above (Pair x a r m n) s (suc (suc (suc zero))) p f e = let o : None ≡ p.under = cc in let z : APair ≡ s = cc in rw (← o, ← z) refl
above (Fst m) s zero p f e = let o : None ≡ p.under = cc in let z : AFst ≡ s = cc in rw (← o, ← z) refl
above (Snd m) s zero p f e = let o : None ≡ p.under = cc in let z : ASnd ≡ s = cc in rw (← o, ← z) refl
above (Let x m n) s zero p f e = let o : None ≡ p.under = cc in let z : ALet ≡ s = cc in rw (← o, ← z) refl
above (Let x m n) s (suc zero) p f e = let o : Some x ≡ p.under = cc in let z : ALet ≡ s = cc in rw (← o, ← z) refl
above _ _ _ p f e = cc

pub inside-length : (o : Option Binder) (xs : List Binder) → length (inside o xs) ≡ length (inside o []) + length xs
inside-length None xs = omega arith
inside-length (Some x) xs = omega arith

-- the pair's loose variables
pub record AreScoped (t u : Core) (xs : List Binder) (p q : Core) : Type 0 where
  pub left : loose p ≤ loose t + length xs
  pub right : loose q ≤ loose u + length xs

pub pair_scoped : (bodies : BodyMap) → AreClosed bodies → (free : FreeHoles) {t u p q : Core} {xs : List Binder} → Corresponds (bodies_in bodies) free t u xs p q → AreScoped t u xs p q
pair_scoped bodies closed free (here {t = t} {u = u} {p = p} {q = q} m n _) =
    let l = loose_normal bodies closed m.0 t p m.1.reaches in
    let r = loose_normal bodies closed n.0 u q n.1.reaches in
    record { left = omega arith; right = omega arith }
pair_scoped bodies closed free (turn {t = t} {u = u} {h = h} {k = k} {p = p} {q = q} {s = s} {l = l} {r = r} {xs = xs} i m n _ _ e f x y _ c) =
    let inner = pair_scoped bodies closed free c in
    let il = inner.left in
    let ir = inner.right in
    let hl = loose_heads bodies closed m.0 t h m.1.reaches in
    let hr = loose_heads bodies closed n.0 u k n.1.reaches in
    let pl = loose_part h i l x in
    let pr = loose_part k i r y in
    let al = above h s i l e x in
    let ar = above k s i r f y in
    let count = inside-length l.under xs in
    record { left = omega arith; right = omega arith }
