-- An entry that doesn't reach a constant doesn't mention it.
use Rattle.std.proofs.Common.{◌≡◌, ℕ, Bool, true, false, not, nat_eq, IsTrue, Option, Some, None, option_map, IfSome, List, ◌++◌, unwrap_or, refl, subst}
use Rattle.std.specs.List.{list_any}
use Rattle.lego_term.specs.Levels.{Assignment}
use Rattle.lego_term.specs.Trees.{Core, Var, Const, Prop, Univ, Pi, Lam, App, Sigma, Pair, Fst, Snd, Let, at, constants_of, mentions}
use Rattle.lego_laws.specs.Entries.{Entry, entry_of, entry_at}
use Rattle.lego_laws.specs.Mention.{entry_mentions, Reaches, EntryReaches, UnreachedIsUnmentioned}
use Rattle.lego_laws.specs.Strengthening.{MentionsOnly, EntryMentions}
use Rattle.lego_laws.proofs.lemmas.principal.HeldVariables.{or_left, or_right, any_front, any_back}

other_than : (o : Bool) → (IsTrue o → ⊥) → IsTrue (not o)
other_than true h = absurd (h refl)
other_than false h = refl

module _ (k : ℕ) where
  none_front : (xs ys : List ℕ) → (IsTrue (list_any (nat_eq k) (xs ++ ys)) → ⊥) → IsTrue (list_any (nat_eq k) xs) → ⊥
  none_front xs ys h i = h (any_front (nat_eq k) xs ys i)

  none_back : (xs ys : List ℕ) → (IsTrue (list_any (nat_eq k) (xs ++ ys)) → ⊥) → IsTrue (list_any (nat_eq k) ys) → ⊥
  none_back xs ys h i = h (any_back (nat_eq k) xs ys i)

  unmentioned : (v : Assignment) (t : Core) → (IsTrue (list_any (nat_eq k) (constants_of t)) → ⊥) → MentionsOnly (λ i. not (nat_eq k i)) (at v t)
  unmentioned v (Var i) h = tt
  unmentioned v (Const i) h = other_than (nat_eq k i) (λ e. h (or_left (nat_eq k i) false e))
  unmentioned v Prop h = tt
  unmentioned v (Univ l) h = tt
  unmentioned v (Pi x a r) h = (unmentioned v a (none_front (constants_of a) (constants_of r) h), unmentioned v r (none_back (constants_of a) (constants_of r) h))
  unmentioned v (Lam x a r) h = (unmentioned v a (none_front (constants_of a) (constants_of r) h), unmentioned v r (none_back (constants_of a) (constants_of r) h))
  unmentioned v (App x a r) h = (unmentioned v a (none_front (constants_of a) (constants_of r) h), unmentioned v r (none_back (constants_of a) (constants_of r) h))
  unmentioned v (Sigma x a r) h = (unmentioned v a (none_front (constants_of a) (constants_of r) h), unmentioned v r (none_back (constants_of a) (constants_of r) h))
  unmentioned v (Let x a r) h = (unmentioned v a (none_front (constants_of a) (constants_of r) h), unmentioned v r (none_back (constants_of a) (constants_of r) h))
  unmentioned v (Pair x a r m n) h =
      let three = none_front (constants_of a ++ constants_of r ++ constants_of m) (constants_of n) h in
      let both = none_front (constants_of a ++ constants_of r) (constants_of m) three in (
        unmentioned v a (none_front (constants_of a) (constants_of r) both),
        unmentioned v r (none_back (constants_of a) (constants_of r) both),
        unmentioned v m (none_back (constants_of a ++ constants_of r) (constants_of m) three),
        unmentioned v n (none_back (constants_of a ++ constants_of r ++ constants_of m) (constants_of n) h),
      )
  unmentioned v (Fst m) h = unmentioned v m h
  unmentioned v (Snd m) h = unmentioned v m h

  body_unmentioned : (v : Assignment) (o : Option Core) → ((m : Core) → o ≡ Some m → IsTrue (mentions k m) → ⊥) → IfSome (option_map (at v) o) (λ m. MentionsOnly (λ i. not (nat_eq k i)) m)
  body_unmentioned v None h = tt
  body_unmentioned v (Some m) h = unmentioned v m (h m refl)

body_found : (k : ℕ) (o : Option Core) (m : Core) → o ≡ Some m → IsTrue (mentions k m) → IsTrue (unwrap_or (option_map (mentions k) o) false)
body_found k None m is i = cc
body_found k (Some t) m is i = let same : m ≡ t = cc is in subst (λ z. IsTrue (mentions k z)) same i

entry_unmentioned : (k : ℕ) (v : Assignment) (e : Entry) → (IsTrue (entry_mentions k e) → ⊥) → EntryMentions (λ i. not (nat_eq k i)) (entry_at v e)
entry_unmentioned k v e h =
    (unmentioned k v e.ty (λ i. h (or_left _ _ i)), body_unmentioned k v e.body (λ m is i. h (or_right _ _ (body_found k e.body m is i))))

by_entry : (es : List Entry) (e x : Entry) (i k : ℕ) → EntryReaches es e i → entry_of es i ≡ Some x → IsTrue (entry_mentions k x) → EntryReaches es e k
by_entry es e x i k (EntryReaches.by_type r) found m = EntryReaches.by_type (Reaches.further r found m)
by_entry es e x i k (EntryReaches.by_body is r) found m = EntryReaches.by_body is (Reaches.further r found m)

pub unreached_is_unmentioned : UnreachedIsUnmentioned
unreached_is_unmentioned es e k h v = (
  (unmentioned k v e.ty (λ i. h (EntryReaches.by_type (Reaches.mentioned i))), body_unmentioned k v e.body (λ m is i. h (EntryReaches.by_body is (Reaches.mentioned i)))),
  λ i x r found. entry_unmentioned k v x (λ m. h (by_entry es e x i k r found m)),
)
