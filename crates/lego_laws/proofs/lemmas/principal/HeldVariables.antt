-- Which level variables count for a term, for entries and for constraints.
use Rattle.std.proofs.Common.{◌≡◌, ℕ, suc, ◌+◌, ◌≤◌, max, nat_eq, Bool, true, false, ◌||◌, IsTrue, Option, Some, None, option_map, unwrap_or, List, [], ◌∷◌, ◌++◌, map, get_or, ◌⊎◌, inl, inr, ⊎_elim, refl, ap, ap₂, arith}
use Rattle.std.proofs.lemmas.Bool.Decides.{nat_tests}
use Rattle.std.specs.List.{list_any}
use Rattle.lego_term.specs.declared.level.Level.{Level}
use Rattle.lego_term.specs.Levels.{Assignment, node_value, level_value, LevelPair, SatisfiesAll}
use Rattle.lego_term.specs.Trees.{Core, Var, Const, Prop, Univ, Pi, Lam, App, Sigma, Pair, Fst, Snd, at, levels_of, is_over, uses_level, Let}
use Rattle.lego_laws.specs.Entries.{Entry, entry_at, entry_uses}
use Rattle.lego_laws.specs.Ranges.{node_bound, level_bound, levels_bound}

pub or_left : (a b : Bool) → IsTrue a → IsTrue (a || b)
or_left true b h = h
or_left false b h = cc

pub or_right : (a b : Bool) → IsTrue b → IsTrue (a || b)
or_right true b h = refl
or_right false b h = h

pub or_cases : (a b : Bool) → IsTrue (a || b) → IsTrue a ⊎ IsTrue b
or_cases true b h = inl h
or_cases false b h = inr h

pub any_front : {X : Type 0} (p : X → Bool) (xs ys : List X) → IsTrue (list_any p xs) → IsTrue (list_any p (xs ++ ys))
any_front p [] ys h = cc
any_front p (x ∷ xs) ys h = ⊎_elim (λ (k : IsTrue (p x)). or_left (p x) _ k) (λ (k : IsTrue (list_any p xs)). or_right (p x) _ (any_front p xs ys k)) (or_cases (p x) (list_any p xs) h)

pub any_back : {X : Type 0} (p : X → Bool) (xs ys : List X) → IsTrue (list_any p ys) → IsTrue (list_any p (xs ++ ys))
any_back p [] ys h = h
any_back p (x ∷ xs) ys h = or_right (p x) _ (any_back p xs ys h)

pub any_split : {X : Type 0} (p : X → Bool) (xs ys : List X) → IsTrue (list_any p (xs ++ ys)) → IsTrue (list_any p xs) ⊎ IsTrue (list_any p ys)
any_split p [] ys h = inr h
any_split p (x ∷ xs) ys h =
    ⊎_elim (λ (k : IsTrue (p x)). inl (or_left (p x) (list_any p xs) k)) (λ (k : IsTrue (list_any p (xs ++ ys))). ⊎_elim (λ (l : IsTrue (list_any p xs)). inl (or_right (p x) (list_any p xs) l)) (λ l. inr l) (any_split p xs ys k)) (or_cases (p x) (list_any p (xs ++ ys)) h)

pub equal_test : (u : ℕ) → IsTrue (nat_eq u u)
equal_test u = grind (arith, nat_tests)

equal_from : (u w : ℕ) → IsTrue (nat_eq u w) → u ≡ w
equal_from u w h = grind (arith, nat_tests)

-- a variable that occurs is below the bound
node_within : (u : ℕ) (o : Option ℕ) → IsTrue (unwrap_or (option_map (nat_eq u) o) false) → suc u ≤ node_bound o
node_within u None h = cc
node_within u (Some w) h = let e = equal_from u w h in omega arith

pub over_within : (u : ℕ) (l : Level) → IsTrue (is_over u l) → suc u ≤ level_bound l
over_within u l h = node_within u l.base h

uses_both : (u : ℕ) (xs ys : List Level) (m n : ℕ) → (IsTrue (list_any (is_over u) xs) → suc u ≤ m) → (IsTrue (list_any (is_over u) ys) → suc u ≤ n) → IsTrue (list_any (is_over u) (xs ++ ys)) → suc u ≤ max m n
uses_both u xs ys m n f g h =
    ⊎_elim (λ (k : IsTrue (list_any (is_over u) xs)). let l = f k in omega arith) (λ (k : IsTrue (list_any (is_over u) ys)). let l = g k in omega arith) (any_split (is_over u) xs ys h)

pub uses_within : (u : ℕ) (t : Core) → IsTrue (uses_level u t) → suc u ≤ levels_bound t
uses_within u (Var i) h = cc
uses_within u (Const k) h = cc
uses_within u Prop h = cc
uses_within u (Univ l) h = ⊎_elim (λ (k : IsTrue (is_over u l)). over_within u l k) (λ (k : IsTrue false). cc) (or_cases (is_over u l) false h)
uses_within u (Pi x a r) h = uses_both u (levels_of a) (levels_of r) (levels_bound a) (levels_bound r) (uses_within u a) (uses_within u r) h
uses_within u (Lam x a r) h = uses_both u (levels_of a) (levels_of r) (levels_bound a) (levels_bound r) (uses_within u a) (uses_within u r) h
uses_within u (App k a r) h = uses_both u (levels_of a) (levels_of r) (levels_bound a) (levels_bound r) (uses_within u a) (uses_within u r) h
uses_within u (Sigma x a r) h = uses_both u (levels_of a) (levels_of r) (levels_bound a) (levels_bound r) (uses_within u a) (uses_within u r) h
uses_within u (Let x a r) h = uses_both u (levels_of a) (levels_of r) (levels_bound a) (levels_bound r) (uses_within u a) (uses_within u r) h
uses_within u (Pair x a r m n) h =
    let e = uses_both u (levels_of a ++ levels_of r ++ levels_of m) (levels_of n) (max (max (levels_bound a) (levels_bound r)) (levels_bound m)) (levels_bound n)
    (uses_both u (levels_of a ++ levels_of r) (levels_of m) (max (levels_bound a) (levels_bound r)) (levels_bound m)
    (uses_both u (levels_of a) (levels_of r) (levels_bound a) (levels_bound r) (uses_within u a) (uses_within u r)) (uses_within u m)) (uses_within u n) h in
    omega arith
uses_within u (Fst m) h = uses_within u m h
uses_within u (Snd m) h = uses_within u m h

module _ (v w : Assignment) where
  -- the assignments agree on the variables that a test finds
  abbrev pub SameOn : (ℕ → Bool) → Type 0
  SameOn p = (u : ℕ) → IsTrue (p u) → get_or v u 0 ≡ get_or w u 0

  node_same : (o : Option ℕ) → SameOn (λ u. unwrap_or (option_map (nat_eq u) o) false) → node_value v o ≡ node_value w o
  node_same None h = refl
  node_same (Some x) h = h x (equal_test x)

  level_same : (l : Level) → SameOn (λ u. is_over u l) → level_value v l ≡ level_value w l
  level_same l h = ap (λ x. x + l.plus) (node_same l.base h)

  front : (xs ys : List Level) → SameOn (λ u. list_any (is_over u) (xs ++ ys)) → SameOn (λ u. list_any (is_over u) xs)
  front xs ys h u k = h u (any_front (is_over u) xs ys k)

  back : (xs ys : List Level) → SameOn (λ u. list_any (is_over u) (xs ++ ys)) → SameOn (λ u. list_any (is_over u) ys)
  back xs ys h u k = h u (any_back (is_over u) xs ys k)

  pub at_same : (t : Core) → SameOn (λ u. uses_level u t) → at v t ≡ at w t
  at_same (Var i) h = refl
  at_same (Const k) h = refl
  at_same Prop h = refl
  at_same (Univ l) h = ap Univ (level_same l (λ u k. h u (or_left (is_over u l) false k)))
  at_same (Pi x a r) h = ap₂ (Pi tt) (at_same a (front (levels_of a) (levels_of r) h)) (at_same r (back (levels_of a) (levels_of r) h))
  at_same (Lam x a r) h = ap₂ (Lam tt) (at_same a (front (levels_of a) (levels_of r) h)) (at_same r (back (levels_of a) (levels_of r) h))
  at_same (App k a r) h = ap₂ (App tt) (at_same a (front (levels_of a) (levels_of r) h)) (at_same r (back (levels_of a) (levels_of r) h))
  at_same (Sigma x a r) h = ap₂ (Sigma tt) (at_same a (front (levels_of a) (levels_of r) h)) (at_same r (back (levels_of a) (levels_of r) h))
  at_same (Let x a r) h = ap₂ (Let tt) (at_same a (front (levels_of a) (levels_of r) h)) (at_same r (back (levels_of a) (levels_of r) h))
  at_same (Pair x a r m n) h =
      let three = front (levels_of a ++ levels_of r ++ levels_of m) (levels_of n) h in
      let both = front (levels_of a ++ levels_of r) (levels_of m) three in
      let ea = at_same a (front (levels_of a) (levels_of r) both) in
      let er = at_same r (back (levels_of a) (levels_of r) both) in
      let em = at_same m (back (levels_of a ++ levels_of r) (levels_of m) three) in
      let en = at_same n (back (levels_of a ++ levels_of r ++ levels_of m) (levels_of n) h) in
      cc (ea, er, em, en)
  at_same (Fst m) h = ap Fst (at_same m h)
  at_same (Snd m) h = ap Snd (at_same m h)

  pub locals_same : (g : List Core) → SameOn (λ u. list_any (uses_level u) g) → map (at v) g ≡ map (at w) g
  locals_same [] h = refl
  locals_same (a ∷ g) h =
      ap₂ (λ x y. x ∷ y) (at_same a (λ u k. h u (or_left (uses_level u a) (list_any (uses_level u) g) k))) (locals_same g (λ u k. h u (or_right (uses_level u a) (list_any (uses_level u) g) k)))

  abbrev pub pair_uses : ℕ → LevelPair → Bool
  pair_uses u c = is_over u c.low || is_over u c.high

  pub satisfies_same : (k : List LevelPair) → SameOn (λ u. list_any (λ c. is_over u c.low || is_over u c.high) k) → SatisfiesAll v k → SatisfiesAll w k
  satisfies_same [] h p = tt
  satisfies_same (c ∷ k) h p =
      let first : SameOn (λ u. is_over u c.low || is_over u c.high) = λ u i. h u (or_left (is_over u c.low || is_over u c.high) (list_any (λ c. is_over u c.low || is_over u c.high) k) i) in
      let el = level_same c.low (λ u i. first u (or_left (is_over u c.low) (is_over u c.high) i)) in
      let eh = level_same c.high (λ u i. first u (or_right (is_over u c.low) (is_over u c.high) i)) in
      let le = p.0 in
      (omega arith, satisfies_same k (λ u i. h u (or_right (is_over u c.low || is_over u c.high) (list_any (λ c. is_over u c.low || is_over u c.high) k) i)) p.1)

  body_same : (o : Option Core) → SameOn (λ u. unwrap_or (option_map (uses_level u) o) false) → option_map (at v) o ≡ option_map (at w) o
  body_same None h = refl
  body_same (Some t) h = ap Some (at_same t h)

  pub entry_same : (e : Entry) → SameOn (λ u. entry_uses u e) → entry_at v e ≡ entry_at w e
  entry_same e h =
      let et = at_same e.ty (λ u k. h u (or_left _ _ (or_left _ _ k))) in
      let eb = body_same e.body (λ u k. h u (or_left _ _ (or_right _ _ k))) in
      cc (et, eb)
