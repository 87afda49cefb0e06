-- What lowering leaves: it undoes lifting, and finds no local where there is none.
use Rattle.std.proofs.Common.{◌≡◌, ℕ, suc, max, ◌+◌, ◌-◌, ◌≤◌, nat_lt, if◌then◌else◌, Option, Some, None, Err, refl, ap, sym, subst, ◌∙◌, arith}
use Rattle.std.proofs.lemmas.Bool.Decides.{nat_tests}
use Rattle.lego_term.specs.Trees.{Core, Var, Const, Prop, Univ, Pi, Lam, App, Sigma, Pair, Fst, Snd, Let, lift, loose}
use Rattle.lego_term.specs.Sequences.{or_else}
use Rattle.lego_term.specs.declared.binder.Binder.{Binder}
use Rattle.lego_match.specs.Answers.{first_below}
use Rattle.lego_match.specs.private.Lowering.{Lowers}
use Rattle.lego_match.specs.declared.lowering.Raised.{Raised}
use Rattle.lego_match.specs.declared.lowering.Raised.TheVariants.{Local, Memory}

none_lifted : (by from i j : ℕ) → j ≡ (if nat_lt i from then i else i + by) → (if nat_lt j from then None else if nat_lt j (from + by) then Some (j - from) else None) ≡ None
none_lifted by from i j e = grind (arith, nat_tests)

no_second : (o p : Option ℕ) → o ≡ None → p ≡ None → or_else o p ≡ None
no_second o p e f = rw (e, f) refl

-- a lifted term has no variable among those that it was lifted past
pub first_below-lift : (by from : ℕ) (t : Core) → first_below by from (lift from by t) ≡ None
first_below-lift by from (Var i) = none_lifted by from i (if nat_lt i from then i else i + by) refl
first_below-lift by from (Const k) = refl
first_below-lift by from Prop = refl
first_below-lift by from (Univ l) = refl
first_below-lift by from (Pi x a r) = no_second _ _ (first_below-lift by from a) (first_below-lift by (suc from) r)
first_below-lift by from (Lam x a r) = no_second _ _ (first_below-lift by from a) (first_below-lift by (suc from) r)
first_below-lift by from (App k m n) = no_second _ _ (first_below-lift by from m) (first_below-lift by from n)
first_below-lift by from (Sigma x a r) = no_second _ _ (first_below-lift by from a) (first_below-lift by (suc from) r)
first_below-lift by from (Pair x a r m n) =
    no_second _ _ (first_below-lift by from a) (no_second _ _ (first_below-lift by (suc from) r) (no_second _ _ (first_below-lift by from m) (first_below-lift by from n)))
first_below-lift by from (Fst m) = first_below-lift by from m
first_below-lift by from (Snd m) = first_below-lift by from m
first_below-lift by from (Let x m n) = no_second _ _ (first_below-lift by from m) (first_below-lift by (suc from) n)

pub none_in : (by from : ℕ) (u t : Core) → lift from by u ≡ t → first_below by from t ≡ None
none_in by from u t e = ap (first_below by from) (sym e) ∙ first_below-lift by from u

-- the first of the terms has the local, or the second, where the first has none
pub found_first : (o p : Option ℕ) (i : ℕ) → o ≡ Some i → or_else o p ≡ Some i
found_first o p i e = rw e refl

pub found_second : (o p : Option ℕ) (i : ℕ) → o ≡ None → p ≡ Some i → or_else o p ≡ Some i
found_second o p i e f = rw (e, f) refl

lifted_bound : (from by i : ℕ) → suc i + by ≤ max (from + by) (suc (if nat_lt i from then i else i + by))
lifted_bound from by i = grind (arith, nat_tests)

-- lifting raises the bound on the loose variables, where it is above the place
pub lift-bound : (from by : ℕ) (t : Core) → loose t + by ≤ max (from + by) (loose (lift from by t))
lift-bound from by (Var i) = lifted_bound from by i
lift-bound from by (Const k) = omega arith
lift-bound from by Prop = omega arith
lift-bound from by (Univ l) = omega arith
lift-bound from by (Pi x a r) = omega (arith, lift-bound from by a, lift-bound (suc from) by r)
lift-bound from by (Lam x a r) = omega (arith, lift-bound from by a, lift-bound (suc from) by r)
lift-bound from by (App k m n) = omega (arith, lift-bound from by m, lift-bound from by n)
lift-bound from by (Sigma x a r) = omega (arith, lift-bound from by a, lift-bound (suc from) by r)
lift-bound from by (Pair x a r m n) = omega (arith, lift-bound from by a, lift-bound (suc from) by r, lift-bound from by m, lift-bound from by n)
lift-bound from by (Fst m) = lift-bound from by m
lift-bound from by (Snd m) = lift-bound from by m
lift-bound from by (Let x m n) = omega (arith, lift-bound from by m, lift-bound (suc from) by n)

-- a local is found in the second of two parts, where the first one was lowered
pub second_of_two : (by from after : ℕ) (t whole a r a' : Core) (why : Raised) → whole ≡ t → first_below by from whole ≡ or_else (first_below by from a) (first_below by after r)
    → lift from by a' ≡ a → Lowers after by r (Err why) → Lowers from by t (Err why)
second_of_two by from after t whole a r a' (Local i) root e h w =
    (ap (first_below by from) (sym root) ∙ (e ∙ found_second (first_below by from a) (first_below by after r) i (none_in by from a' a h) w.0), w.1)
second_of_two by from after t whole a r a' Memory root e h w = tt

pub second_bound : (by from under : ℕ) (t whole a r a' : Core) (why : Raised) → under ≡ suc from → whole ≡ t → first_below by from whole ≡ or_else (first_below by from a) (first_below by (suc from) r)
    → lift from by a' ≡ a → Lowers under by r (Err why) → Lowers from by t (Err why)
second_bound by from under t whole a r a' why n root e h w = second_of_two by from (suc from) t whole a r a' why root e h (subst (λ z. Lowers z by r (Err why)) n w)

-- and in the second, third and fourth part of a pair
pub second_of_four : (by from under : ℕ) (x : Binder) (t a r m n a' : Core) (why : Raised) → under ≡ suc from → Pair x a r m n ≡ t → lift from by a' ≡ a → Lowers under by r (Err why) → Lowers from by t (Err why)
second_of_four by from under x t a r m n a' (Local i) s root h w =
    (ap (first_below by from) (sym root) ∙ found_second (first_below by from a) _ i (none_in by from a' a h) (found_first (first_below by (suc from) r) _ i (subst (λ z. first_below by z r ≡ Some i) s w.0)), w.1)
second_of_four by from under x t a r m n a' Memory s root h w = tt

pub third_of_four : (by from under : ℕ) (x : Binder) (t a r m n a' r' : Core) (why : Raised) → under ≡ suc from → Pair x a r m n ≡ t → lift from by a' ≡ a → lift under by r' ≡ r → Lowers from by m (Err why) → Lowers from by t (Err why)
third_of_four by from under x t a r m n a' r' (Local i) s root h k w = (
  ap (first_below by from) (sym root)
      ∙ found_second (first_below by from a) _ i (none_in by from a' a h)
      (found_second (first_below by (suc from) r) _ i (none_in by (suc from) r' r (subst (λ z. lift z by r' ≡ r) s k)) (found_first (first_below by from m) _ i w.0)),
  w.1,
)
third_of_four by from under x t a r m n a' r' Memory s root h k w = tt

pub fourth_of_four : (by from under : ℕ) (x : Binder) (t a r m n a' r' m' : Core) (why : Raised) → under ≡ suc from → Pair x a r m n ≡ t → lift from by a' ≡ a → lift under by r' ≡ r → lift from by m' ≡ m → Lowers from by n (Err why)
    → Lowers from by t (Err why)
fourth_of_four by from under x t a r m n a' r' m' (Local i) s root h k l w = (
  ap (first_below by from) (sym root)
      ∙ found_second (first_below by from a) _ i (none_in by from a' a h)
      (found_second (first_below by (suc from) r) _ i (none_in by (suc from) r' r (subst (λ z. lift z by r' ≡ r) s k))
      (found_second (first_below by from m) _ i (none_in by from m' m l) w.0)),
  w.1,
)
fourth_of_four by from under x t a r m n a' r' m' Memory s root h k l w = tt
