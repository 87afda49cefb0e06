-- A test of levels that finds none in a term's list finds none in the term, and the other way round.
use Rattle.std.proofs.Common.{Bool, false, IsTrue, List, ◌++◌, ⊎_elim}
use Rattle.std.specs.List.{list_any}
use Rattle.lego_term.specs.declared.level.Level.{Level}
use Rattle.lego_term.specs.Trees.{Core, Var, Const, Prop, Univ, Pi, Lam, App, Sigma, Pair, Fst, Snd, Let, levels_of}
use Rattle.lego_laws.proofs.lemmas.principal.HeldVariables.{or_left, or_cases, any_front, any_back, any_split}
use Rattle.lego_laws.proofs.lemmas.inference.LevelsKept.{Levels}

module _ (p : Level → Bool) where
  none_front : (xs ys : List Level) → (IsTrue (list_any p (xs ++ ys)) → ⊥) → IsTrue (list_any p xs) → ⊥
  none_front xs ys h k = h (any_front p xs ys k)

  none_back : (xs ys : List Level) → (IsTrue (list_any p (xs ++ ys)) → ⊥) → IsTrue (list_any p ys) → ⊥
  none_back xs ys h k = h (any_back p xs ys k)

  none_both : (xs ys : List Level) → (IsTrue (list_any p xs) → ⊥) → (IsTrue (list_any p ys) → ⊥) → IsTrue (list_any p (xs ++ ys)) → ⊥
  none_both xs ys h k f = ⊎_elim h k (any_split p xs ys f)

  pub none_listed : (t : Core) → (IsTrue (list_any p (levels_of t)) → ⊥) → Levels (λ l. IsTrue (p l) → ⊥) t
  none_listed (Var i) h = tt
  none_listed (Const k) h = tt
  none_listed Prop h = tt
  none_listed (Univ l) h = λ f. h (or_left (p l) false f)
  none_listed (Pi x a r) h = (none_listed a (none_front (levels_of a) (levels_of r) h), none_listed r (none_back (levels_of a) (levels_of r) h))
  none_listed (Lam x a r) h = (none_listed a (none_front (levels_of a) (levels_of r) h), none_listed r (none_back (levels_of a) (levels_of r) h))
  none_listed (App k a r) h = (none_listed a (none_front (levels_of a) (levels_of r) h), none_listed r (none_back (levels_of a) (levels_of r) h))
  none_listed (Sigma x a r) h = (none_listed a (none_front (levels_of a) (levels_of r) h), none_listed r (none_back (levels_of a) (levels_of r) h))
  none_listed (Let x a r) h = (none_listed a (none_front (levels_of a) (levels_of r) h), none_listed r (none_back (levels_of a) (levels_of r) h))
  none_listed (Pair x a r m n) h =
      let three = none_front (levels_of a ++ levels_of r ++ levels_of m) (levels_of n) h in
      let both = none_front (levels_of a ++ levels_of r) (levels_of m) three in (
        none_listed a (none_front (levels_of a) (levels_of r) both),
        none_listed r (none_back (levels_of a) (levels_of r) both),
        none_listed m (none_back (levels_of a ++ levels_of r) (levels_of m) three),
        none_listed n (none_back (levels_of a ++ levels_of r ++ levels_of m) (levels_of n) h),
      )
  none_listed (Fst m) h = none_listed m h
  none_listed (Snd m) h = none_listed m h

  pub listed_none : (t : Core) → Levels (λ l. IsTrue (p l) → ⊥) t → IsTrue (list_any p (levels_of t)) → ⊥
  listed_none (Var i) h = λ f. cc
  listed_none (Const k) h = λ f. cc
  listed_none Prop h = λ f. cc
  listed_none (Univ l) h = λ f. ⊎_elim h (λ (e : IsTrue false). cc) (or_cases (p l) false f)
  listed_none (Pi x a r) h = none_both (levels_of a) (levels_of r) (listed_none a h.0) (listed_none r h.1)
  listed_none (Lam x a r) h = none_both (levels_of a) (levels_of r) (listed_none a h.0) (listed_none r h.1)
  listed_none (App k a r) h = none_both (levels_of a) (levels_of r) (listed_none a h.0) (listed_none r h.1)
  listed_none (Sigma x a r) h = none_both (levels_of a) (levels_of r) (listed_none a h.0) (listed_none r h.1)
  listed_none (Let x a r) h = none_both (levels_of a) (levels_of r) (listed_none a h.0) (listed_none r h.1)
  listed_none (Pair x a r m n) h =
      none_both (levels_of a ++ levels_of r ++ levels_of m) (levels_of n)
      (none_both (levels_of a ++ levels_of r) (levels_of m) (none_both (levels_of a) (levels_of r) (listed_none a h.0) (listed_none r h.1)) (listed_none m h.2)) (listed_none n h.3)
  listed_none (Fst m) h = listed_none m h
  listed_none (Snd m) h = listed_none m h
