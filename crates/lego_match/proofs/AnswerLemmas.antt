-- Two terms determine one answer.
use Rattle.std.proofs.Common.{◌≡◌, ℕ, suc, ◌+◌, ◌-◌, nat_lt, if◌then◌else◌, Option, Some, None, option_and_then, Result, Ok, Err, List, length, ◌⊎◌, inl, inr, IsTrue, IsFalse, refl, sym, ap, ◌∙◌, subst, arith}
use Rattle.std.specs.Option.{is_some}
use Rattle.std.proofs.lemmas.Bool.Decides.{nat_tests}
use Rattle.lego_term.specs.declared.binder.Binder.{Binder}
use Rattle.lego_term.specs.Trees.{Core, Var, Const, Prop, Univ, Pi, Lam, App, Sigma, Pair, Fst, Snd, Let, map_leaves, lift, mentions}
use Rattle.lego_laws.specs.Parallel.{CoreBodies}
use Rattle.lego_match.specs.Agreement.{AgreeIn}
use Rattle.lego_match.specs.Holes.{FreeHoles, has_free_head, IsApplied}
use Rattle.lego_match.specs.Pairs.{Corresponds, GoesIntoParts}
use Rattle.lego_match.specs.Answers.{Solves, of_left, of_right, first_below, IsSolved, OccursIn, Escapes, IsHigherOrder, Clashes}
use Rattle.lego_match.specs.Determined.{Determines, AnswersAreOne}
use Rattle.lego_match.specs.declared.answer.Candidate.{Candidate}
use Rattle.lego_match.specs.declared.fault.MatchFault.{MatchFault}
use Rattle.lego_match.specs.declared.fault.MatchFault.TheVariants.{Clash, Occurs, Scope, HigherOrder, Budget, TooLarge, Memory}
use Rattle.lego_match.proofs.HoleLemmas.{applied_hole_is}
use Rattle.lego_match.proofs.LoweringLemmas.{none_in}
use Rattle.lego_match.proofs.UniqueLemmas.{pairs_are_one, pairs_disagree}

-- takes away what lifting adds
abbrev lower : ℕ → ℕ → Core → Core
lower from by = map_leaves suc (λ n i. Var (if nat_lt i n then i else i - by)) (λ n k. Const k) from

index_lowered : (from by i j : ℕ) → j ≡ (if nat_lt i from then i else i + by) → (if nat_lt j from then j else j - by) ≡ i
index_lowered from by i j e = grind (arith, nat_tests)

lower-lift : (from by : ℕ) (t : Core) → lower from by (lift from by t) ≡ t
lower-lift from by (Var n) i = Var (index_lowered from by n (if nat_lt n from then n else n + by) refl i)
lower-lift from by (Const k) i = Const k
lower-lift from by Prop i = Prop
lower-lift from by (Univ l) i = Univ l
lower-lift from by (Pi x a r) i = Pi x (lower-lift from by a i) (lower-lift (suc from) by r i)
lower-lift from by (Lam x a r) i = Lam x (lower-lift from by a i) (lower-lift (suc from) by r i)
lower-lift from by (App k m n) i = App k (lower-lift from by m i) (lower-lift from by n i)
lower-lift from by (Sigma x a r) i = Sigma x (lower-lift from by a i) (lower-lift (suc from) by r i)
lower-lift from by (Pair x a r m n) i = Pair x (lower-lift from by a i) (lower-lift (suc from) by r i) (lower-lift from by m i) (lower-lift from by n i)
lower-lift from by (Fst m) i = Fst (lower-lift from by m i)
lower-lift from by (Snd m) i = Snd (lower-lift from by m i)
lower-lift from by (Let x m n) i = Let x (lower-lift from by m i) (lower-lift (suc from) by n i)

one_lifted : (from by : ℕ) (t u : Core) → lift from by t ≡ lift from by u → t ≡ u
one_lifted from by t u e = sym (lower-lift from by t) ∙ ap (lower from by) e ∙ lower-lift from by u

-- the hole, its hypotheses and the other part of two solutions
record SameHole (k k' n n' : ℕ) (o o' : Core) : Type 0 where
  hole : k ≡ k'
  hypotheses : n ≡ n'
  other : o ≡ o'

module _ (free : FreeHoles) (locals : ℕ) where
  one_count : (t : Core) (k k' n n' : ℕ) → IsApplied free locals t k n → IsApplied free locals t k' n' → k ≡ k' → n ≡ n'
  one_count t k k' n n' x y e = let f = x.is_free in let g = y.is_free in cc

  one_hole : {p q o o' : Core} {k k' n n' : ℕ} → Solves free locals p q k n o → Solves free locals p q k' n' o' → SameHole k k' n n' o o'
  one_hole (of_left {p = p} {hole = k} {hypotheses = n} x less) (of_left {hole = k'} {hypotheses = n'} y less') =
      let e = applied_hole_is free locals p k' n' k n y x in
      record { hole = e; hypotheses = one_count p k k' n n' x y e; other = refl }
  one_hole (of_left {p = p} {q = q} {hole = k} {hypotheses = n} x less) (of_right {hole = k'} {hypotheses = n'} y less') =
      let a = less k' n' y in let c = less' k n x in absurd (omega arith)
  one_hole (of_right {p = p} {q = q} {hole = k} {hypotheses = n} x less) (of_left {hole = k'} {hypotheses = n'} y less') =
      let a = less k' n' y in let c = less' k n x in absurd (omega arith)
  one_hole (of_right {p = p} {q = q} {hole = k} {hypotheses = n} x less) (of_right {hole = k'} {hypotheses = n'} y less') =
      let e = applied_hole_is free locals q k' n' k n y x in
      record { hole = e; hypotheses = one_count q k k' n n' x y e; other = refl }

  applied_head : (t : Core) (k n : ℕ) → IsApplied free locals t k n → IsTrue (has_free_head free t)
  applied_head t k n x = ap (λ o. is_some (option_and_then free o)) x.head ∙ ap is_some x.is_free

  abbrev HasHead : Core → Core → Type 0
  HasHead p q = IsTrue (has_free_head free p) ⊎ IsTrue (has_free_head free q)

  solved_head : {p q o : Core} {k n : ℕ} → Solves free locals p q k n o → HasHead p q
  solved_head (of_left {p = p} {hole = k} {hypotheses = n} x less) = inl (applied_head p k n x)
  solved_head (of_right {q = q} {hole = k} {hypotheses = n} x less) = inr (applied_head q k n x)

  not_both : (p q : Core) → HasHead p q → IsFalse (has_free_head free p) → IsFalse (has_free_head free q) → ⊥
  not_both p q (inl h) e f = cc
  not_both p q (inr h) e f = cc

  not_inside : (p q : Core) → HasHead p q → GoesIntoParts free p q → ⊥
  not_inside p q h g = not_both p q h g.0 g.1

  not_applied : {p q o : Core} {k n : ℕ} → Solves free locals p q k n o → IsHigherOrder free locals p q → ⊥
  not_applied (of_left {hole = k} {hypotheses = n} x less) h = h.left k n x
  not_applied (of_right {hole = k} {hypotheses = n} x less) h = h.right k n x

  -- what a pair gives, each with what holds of it
  data Gives (p q : Core) (xs : List Binder) : Result (Option Candidate) MatchFault → Type 0 where
    solution : {c : Candidate} → IsSolved free locals p q c.hole c.body → Gives p q xs (Ok (Some c))
    occurrence : {k : ℕ} → OccursIn free locals p q k → Gives p q xs (Err (Occurs k))
    escape : {k i : ℕ} → Escapes free locals p q k i → Gives p q xs (Err (Scope k i xs))
    higher : IsHigherOrder free locals p q → Gives p q xs (Err (HigherOrder p q xs))
    clash : Clashes free p q → Gives p q xs (Err (Clash p q xs))

  absent_inside : {o o' : Core} {k k' : ℕ} → k ≡ k' → o ≡ o' → IsFalse (mentions k o) → IsTrue (mentions k' o') → ⊥
  absent_inside {o} {o'} {k} {k'} e f a i = let x : IsFalse (mentions k' o') = rw (← e, ← f) a in cc

  no_escape : {o o' : Core} {n n' i : ℕ} (body : Core) → n ≡ n' → o ≡ o' → lift 0 (locals - n) body ≡ o → first_below (locals - n') 0 o' ≡ Some i → ⊥
  no_escape {o} {o'} {n} {n'} {i} body e f l x = let z = none_in (locals - n) 0 body o l in let y : first_below (locals - n) 0 o ≡ Some i = rw (e, f) x in cc

  one_body : {o o' body body' : Core} {n n' : ℕ} → n ≡ n' → o ≡ o' → lift 0 (locals - n) body ≡ o → lift 0 (locals - n') body' ≡ o' → body ≡ body'
  one_body {o} {o'} {body} {body'} {n} {n'} e f l l' = one_lifted 0 (locals - n) body body' (l ∙ f ∙ sym (subst (λ z. lift 0 (locals - z) body' ≡ o') (sym e) l'))

  one_variable : {o o' : Core} {n n' i j : ℕ} → n ≡ n' → o ≡ o' → first_below (locals - n) 0 o ≡ Some i → first_below (locals - n') 0 o' ≡ Some j → i ≡ j
  one_variable {o} {o'} {n} {n'} {i} {j} e f x y = let z : first_below (locals - n) 0 o ≡ Some j = rw (e, f) y in cc

  one_given : {p q : Core} {xs : List Binder} {x y : Result (Option Candidate) MatchFault} → Gives p q xs x → Gives p q xs y → x ≡ y
  one_given (solution {c = c} v) (solution {c = d} w) =
      let s = one_hole v.solves w.solves in
      let e = one_body s.hypotheses s.other v.lowered w.lowered in
      λ j. Ok (Some (record { hole = s.hole j; body = e j }))
  one_given (solution v) (occurrence w) = let s = one_hole v.solves w.solves in absurd (absent_inside s.hole s.other v.absent w.inside)
  one_given (solution {c = c} v) (escape w) = let s = one_hole v.solves w.solves in absurd (no_escape c.body s.hypotheses s.other v.lowered w.first)
  one_given (solution v) (higher w) = absurd (not_applied v.solves w)
  one_given {p = p} {q = q} (solution v) (clash w) = absurd (not_both p q (solved_head v.solves) w.left w.right)
  one_given (occurrence v) (solution w) = let s = one_hole w.solves v.solves in absurd (absent_inside s.hole s.other w.absent v.inside)
  one_given (occurrence v) (occurrence w) = let s = one_hole v.solves w.solves in λ j. Err (Occurs (s.hole j))
  one_given (occurrence v) (escape w) = let s = one_hole w.solves v.solves in absurd (absent_inside s.hole s.other w.absent v.inside)
  one_given (occurrence v) (higher w) = absurd (not_applied v.solves w)
  one_given {p = p} {q = q} (occurrence v) (clash w) = absurd (not_both p q (solved_head v.solves) w.left w.right)
  one_given (escape v) (solution {c = c} w) = let s = one_hole w.solves v.solves in absurd (no_escape c.body s.hypotheses s.other w.lowered v.first)
  one_given (escape v) (occurrence w) = let s = one_hole v.solves w.solves in absurd (absent_inside s.hole s.other v.absent w.inside)
  one_given {xs = xs} (escape v) (escape w) = let s = one_hole v.solves w.solves in let e = one_variable s.hypotheses s.other v.first w.first in λ j. Err (Scope (s.hole j) (e j) xs)
  one_given (escape v) (higher w) = absurd (not_applied v.solves w)
  one_given {p = p} {q = q} (escape v) (clash w) = absurd (not_both p q (solved_head v.solves) w.left w.right)
  one_given (higher v) (solution w) = absurd (not_applied w.solves v)
  one_given (higher v) (occurrence w) = absurd (not_applied w.solves v)
  one_given (higher v) (escape w) = absurd (not_applied w.solves v)
  one_given (higher v) (higher w) = refl
  one_given {p = p} {q = q} (higher v) (clash w) = absurd (not_both p q v.head w.left w.right)
  one_given {p = p} {q = q} (clash v) (solution w) = absurd (not_both p q (solved_head w.solves) v.left v.right)
  one_given {p = p} {q = q} (clash v) (occurrence w) = absurd (not_both p q (solved_head w.solves) v.left v.right)
  one_given {p = p} {q = q} (clash v) (escape w) = absurd (not_both p q (solved_head w.solves) v.left v.right)
  one_given {p = p} {q = q} (clash v) (higher w) = absurd (not_both p q w.head v.left v.right)
  one_given (clash v) (clash w) = refl

module _ (b : CoreBodies) (free : FreeHoles) (locals : ℕ) (t u : Core) where
  data Determined : Result (Option Candidate) MatchFault → Type 0 where
    agreed : AgreeIn b t u → Determined (Ok None)
    at_pair : {x : Result (Option Candidate) MatchFault} (p q : Core) (xs : List Binder) → Corresponds b free t u xs p q → (GoesIntoParts free p q → ⊥) → Gives free (locals + length xs) p q xs x → Determined x

  determined : (x : Result (Option Candidate) MatchFault) → Determines b free locals t u x → Determined x
  determined (Ok None) w = agreed w
  determined (Ok (Some c)) w = at_pair w.left w.right w.deeper w.pair (not_inside free (locals + length w.deeper) w.left w.right (solved_head free (locals + length w.deeper) w.solved.solves)) (solution w.solved)
  determined (Err (Clash p q xs)) w = at_pair p q xs w.0 (λ g. w.1.forms g.2 g.3 g.4) (clash w.1)
  determined (Err (Occurs k)) w = at_pair w.1.0 w.1.1 w.0 w.1.2 (not_inside free (locals + length w.0) w.1.0 w.1.1 (solved_head free (locals + length w.0) w.1.3.solves)) (occurrence w.1.3)
  determined (Err (Scope k i xs)) w = at_pair w.0 w.1 xs w.2 (not_inside free (locals + length xs) w.0 w.1 (solved_head free (locals + length xs) w.3.solves)) (escape w.3)
  determined (Err (HigherOrder p q xs)) w = at_pair p q xs w.0 (not_inside free (locals + length xs) p q w.1.head) (higher w.1)
  determined (Err Budget) w = absurd w
  determined (Err (TooLarge i j)) w = absurd w
  determined (Err Memory) w = absurd w

  one_determined : {x y : Result (Option Candidate) MatchFault} → Determined x → Determined y → x ≡ y
  one_determined (agreed a) (agreed a') = refl
  one_determined (agreed a) (at_pair p q xs c g v) = absurd (pairs_disagree b free t u p q xs c a)
  one_determined (at_pair p q xs c g v) (agreed a) = absurd (pairs_disagree b free t u p q xs c a)
  one_determined {y = y} (at_pair p q xs c g v) (at_pair p' q' xs' c' g' w) =
      let s = pairs_are_one b free t u p q p' q' xs xs' c g c' g' in
      one_given free (locals + length xs) v
      (subst (λ z. Gives free (locals + length z) p q z y) (sym s.0) (subst (λ z. Gives free (locals + length xs') z q xs' y) (sym s.1) (subst (λ z. Gives free (locals + length xs') p' z xs' y) (sym s.2) w)))

pub answers_are_one : AnswersAreOne
answers_are_one b free locals t u x y v w = one_determined b free locals t u (determined b free locals t u x v) (determined b free locals t u y w)
