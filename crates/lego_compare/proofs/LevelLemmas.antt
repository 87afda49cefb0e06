-- The levels of what faces one another are levels of the terms and the bodies.
use Rattle.std.proofs.Common.{◌≡◌, ℕ, zero, suc, Some, List, [], ◌∷◌, ◌++◌, slice_get, refl, subst, arith}
use Rattle.std.specs.Prelude.{Contains}
use Rattle.std.proofs.lemmas.List.Elements.{Contains-append_left, Contains-append_right}
use Rattle.lego_term.specs.declared.level.Level.{Level}
use Rattle.lego_term.specs.Trees.{Core, Var, Const, Prop, Univ, Pi, Lam, App, Sigma, Pair, Fst, Snd, Let, levels_of}
use Rattle.lego_term.specs.Parts.{Branch, parts_of}
use Rattle.lego_term.specs.Sequences.{HeadForm}
use Rattle.lego_laws.specs.Parallel.{CoreBodies}
use Rattle.lego_laws.specs.Facing.{Order, Faces, Asks, IsAsked}
use Rattle.lego_laws.proofs.lemmas.reduction.HeadSteps.{head_steps}
use Rattle.lego_laws.proofs.lemmas.inference.LevelsKept.{Levels, levels_run}
use Rattle.lego_compare.specs.Answers.{IsLevelIn, of_left, of_right, of_body}

alone : (l : Level) → Contains (l ∷ []) l
alone l = (0, omega arith, refl)

module _ (P : Level → Type 0) where
  front : (xs ys : List Level) → ((l : Level) → Contains (xs ++ ys) l → P l) → (l : Level) → Contains xs l → P l
  front xs ys h l c = h l (Contains-append_left xs ys l c)

  back : (xs ys : List Level) → ((l : Level) → Contains (xs ++ ys) l → P l) → (l : Level) → Contains ys l → P l
  back xs ys h l c = h l (Contains-append_right xs ys l c)

  -- what holds of each listed level holds of each level of the tree
  listed : (t : Core) → ((l : Level) → Contains (levels_of t) l → P l) → Levels P t
  listed (Var i) h = tt
  listed (Const k) h = tt
  listed Prop h = tt
  listed (Univ l) h = h l (alone l)
  listed (Pi x a r) h = (listed a (front (levels_of a) (levels_of r) h), listed r (back (levels_of a) (levels_of r) h))
  listed (Lam x a m) h = (listed a (front (levels_of a) (levels_of m) h), listed m (back (levels_of a) (levels_of m) h))
  listed (App k m n) h = (listed m (front (levels_of m) (levels_of n) h), listed n (back (levels_of m) (levels_of n) h))
  listed (Sigma x a r) h = (listed a (front (levels_of a) (levels_of r) h), listed r (back (levels_of a) (levels_of r) h))
  listed (Pair x a r m n) h =
      let three = front (levels_of a ++ levels_of r ++ levels_of m) (levels_of n) h in
      let two = front (levels_of a ++ levels_of r) (levels_of m) three in (
        listed a (front (levels_of a) (levels_of r) two),
        listed r (back (levels_of a) (levels_of r) two),
        listed m (back (levels_of a ++ levels_of r) (levels_of m) three),
        listed n (back (levels_of a ++ levels_of r ++ levels_of m) (levels_of n) h),
      )
  listed (Fst m) h = listed m h
  listed (Snd m) h = listed m h
  listed (Let x a r) h = (listed a (front (levels_of a) (levels_of r) h), listed r (back (levels_of a) (levels_of r) h))

  of_part : (a : Core) (q : Branch) → a ≡ q.term → Levels P a → Levels P q.term
  of_part a q e h = subst (Levels P) e h

  part : (t : Core) (i : ℕ) (q : Branch) → slice_get (parts_of t) i ≡ Some q → Levels P t → Levels P q.term
  part (Pi x a r) zero q e h = of_part a q (cc) h.0
  part (Pi x a r) (suc zero) q e h = of_part r q (cc) h.1
  part (Lam x a m) zero q e h = of_part a q (cc) h.0
  part (Lam x a m) (suc zero) q e h = of_part m q (cc) h.1
  part (App k m n) zero q e h = of_part m q (cc) h.0
  part (App k m n) (suc zero) q e h = of_part n q (cc) h.1
  part (Sigma x a r) zero q e h = of_part a q (cc) h.0
  part (Sigma x a r) (suc zero) q e h = of_part r q (cc) h.1
  part (Pair x a r m n) zero q e h = of_part a q (cc) h.0
  part (Pair x a r m n) (suc zero) q e h = of_part r q (cc) h.1
  part (Pair x a r m n) (suc (suc zero)) q e h = of_part m q (cc) h.2
  part (Pair x a r m n) (suc (suc (suc zero))) q e h = of_part n q (cc) h.3
  part (Fst m) zero q e h = of_part m q (cc) h
  part (Snd m) zero q e h = of_part m q (cc) h
  part (Let x a r) zero q e h = of_part a q (cc) h.0
  part (Let x a r) (suc zero) q e h = of_part r q (cc) h.1
  part _ _ q e h = cc

  module _ (b : CoreBodies) (of_bodies : (k : ℕ) (body : Core) → b k ≡ Some body → Levels P body) where
    head : {t h : Core} → HeadForm b t h → Levels P t → Levels P h
    head {t} {h} p l = levels_run P b of_bodies (head_steps b p.0 t h p.1.reaches) l

    facing : {t u : Core} {o : Order} {n : ℕ} {h k : Core} → Levels P t → Levels P u → Faces b t u o n h k → Levels P h × Levels P k
    facing l m (Faces.root p q) = (head p l, head q m)
    facing l m (Faces.turn {c = c} {d = d} {p = p} {q = q} i faces e f x y hp hq) =
        let s = facing l m faces in
        (head hp (part c i p x s.0), head hq (part d i q y s.1))

-- both levels of a constraint that is asked
pub asked_levels : (o : Order) (b : CoreBodies) (t u : Core) (low high : Level) → IsAsked o b t u low high → IsLevelIn b t u low × IsLevelIn b t u high
asked_levels o b t u low high a =
    let own = facing (IsLevelIn b t u) b (λ k body e. listed (IsLevelIn b t u) body (λ l c. of_body e c)) (listed (IsLevelIn b t u) t (λ l c. of_left c)) (listed (IsLevelIn b t u) u (λ l c. of_right c)) a.faces in
    in_turn a.asks own.0 own.1
  where
    in_turn : {p : Order} {l m x y : Level} → Asks p l m x y → IsLevelIn b t u l → IsLevelIn b t u m → IsLevelIn b t u x × IsLevelIn b t u y
    in_turn Asks.up i j = (i, j)
    in_turn Asks.down i j = (j, i)
