-- A walk through the parts of two head forms, put together from the walk through one part and that through the rest.
use Rattle.std.proofs.Common.{◌≡◌, ℕ, zero, suc, ◌+◌, ◌-◌, ◌≤◌, ◌<◌, true, false, Bool, Option, Some, None, Result, Ok, Err, List, [], ◌∷◌, ◌++◌, drop, slice_get, IsFalse, refl, sym, ap, ◌∙◌, subst, append_assoc, ⊎_elim, arith}
use Rattle.std.proofs.lemmas.Bool.{cases_lt}
use Rattle.lego_term.specs.declared.binder.Binder.{Binder}
use Rattle.lego_term.specs.Trees.{Core, Var, Const, Prop, Univ, Pi, Lam, App, Sigma, Pair, Fst, Snd, Let, depth}
use Rattle.lego_term.specs.Parts.{Shape, APi, ALam, AnApp, ASigma, APair, AFst, ASnd, ALet, shape_of, Branch, parts_of}
use Rattle.lego_term.specs.Numbered.{is_at_head}
use Rattle.lego_laws.specs.Parallel.{CoreBodies}
use Rattle.lego_laws.specs.HeadForms.{IsHeadForm}
use Rattle.lego_laws.specs.Counting.{HasSteps, PartsHaveSteps, up_to_here, and_then}
use Rattle.lego_laws.proofs.lemmas.reduction.Stuck.{app_stuck, fst_stuck, snd_stuck}
use Rattle.lego_match.specs.Holes.{FreeHoles, has_free_head}
use Rattle.lego_match.specs.Agreement.{AgreeIn}
use Rattle.lego_match.specs.Pairs.{AgreeBefore, Corresponds, turn}
use Rattle.lego_match.specs.private.Codes.{position_inside}
use Rattle.lego_match.specs.private.Walks.{IsNormal, AllAgree, Walks, PartWalks, PartsWalk}
use Rattle.lego_match.specs.declared.stop.Stop.{Stop}
use Rattle.lego_match.specs.declared.stop.Stop.TheVariants.{Apart, Budget, Whole, Memory}
use Rattle.lego_match.specs.declared.walk.Position.{Position}
use Rattle.lego_match.proofs.FormLemmas.{parts_end}

drop_some : {X : Type 0} (xs : List X) (i : ℕ) (x : X) → slice_get xs i ≡ Some x → drop i xs ≡ x ∷ drop (suc i) xs
drop_some [] i x e = cc
drop_some (y ∷ ys) zero x e = let s : y ≡ x = cc in ap (λ z. z ∷ ys) s
drop_some (y ∷ ys) (suc i) x e = drop_some ys i x e

none_behind : {X : Type 0} (xs : List X) (i j : ℕ) (x : X) → slice_get xs i ≡ None → slice_get xs j ≡ Some x → j < i
none_behind [] i j x e f = cc
none_behind (y ∷ ys) zero j x e f = cc
none_behind (y ∷ ys) (suc i) zero x e f = omega arith
none_behind (y ∷ ys) (suc i) (suc j) x e f = let l = none_behind ys i j x e f in omega arith

-- a term with parts has a form
some_shape : (t : Core) (i : ℕ) (p : Branch) → slice_get (parts_of t) i ≡ Some p → (s : Shape) × (shape_of t ≡ Some s)
some_shape (Pi x a r) i p e = (APi, refl)
some_shape (Lam x a r) i p e = (ALam, refl)
some_shape (App k m n) i p e = (AnApp, refl)
some_shape (Sigma x a r) i p e = (ASigma, refl)
some_shape (Pair x a r m n) i p e = (APair, refl)
some_shape (Fst m) i p e = (AFst, refl)
some_shape (Snd m) i p e = (ASnd, refl)
some_shape (Let x m n) i p e = (ALet, refl)
some_shape _ i p e = cc

module _ (b : CoreBodies) where
  -- where the parts before the last agree, and there is no more, all agree
  pub all_before : (h k : Core) (i : ℕ) → AgreeBefore b i h k → slice_get (parts_of h) i ≡ None → AllAgree b h k
  all_before h k i before e j l r x y = before j l r (none_behind (parts_of h) i j l e x) x y

  pub all_before_right : (h k : Core) (i : ℕ) → AgreeBefore b i h k → slice_get (parts_of k) i ≡ None → AllAgree b h k
  all_before_right h k i before e j l r x y = before j l r (none_behind (parts_of k) i j r e y) x y

  pub one_more : (h k : Core) (i next : ℕ) (l r : Branch) → next ≡ suc i → AgreeBefore b i h k → slice_get (parts_of h) i ≡ Some l → slice_get (parts_of k) i ≡ Some r → AgreeIn b l.term r.term → AgreeBefore b next h k
  one_more h k i next l r is before x y a j m n lt u v = ⊎_elim (λ (less : j < i). before j m n less u v) (λ (le : i ≤ j). here (omega arith)) (cases_lt j i)
    where
      here : i ≡ j → AgreeIn b m.term n.term
      here same =
          let x' : slice_get (parts_of h) j ≡ Some l = subst (λ z. slice_get (parts_of h) z ≡ Some l) same x in
          let y' : slice_get (parts_of k) j ≡ Some r = subst (λ z. slice_get (parts_of k) z ≡ Some r) same y in
          let p : l ≡ m = cc in
          let q : r ≡ n = cc in
          rw (← p, ← q) a

  -- a part where a head step of a head form might be made is a head form with the same head
  pub head_part : (free : FreeHoles) (t : Core) (i : ℕ) (p : Branch) → is_at_head t i ≡ true → IsHeadForm b t → IsFalse (has_free_head free t) → slice_get (parts_of t) i ≡ Some p → IsHeadForm b p.term × IsFalse (has_free_head free p.term)
  head_part free (App k m n) zero p e s f x = let z : m ≡ p.term = cc in (subst (IsHeadForm b) z (app_stuck b k m n s).0, subst (λ v. IsFalse (has_free_head free v)) z f)
  head_part free (Fst m) zero p e s f x = let z : m ≡ p.term = cc in (subst (IsHeadForm b) z (fst_stuck b m s).0, subst (λ v. IsFalse (has_free_head free v)) z f)
  head_part free (Snd m) zero p e s f x = let z : m ≡ p.term = cc in (subst (IsHeadForm b) z (snd_stuck b m s).0, subst (λ v. IsFalse (has_free_head free v)) z f)
  head_part free _ _ p e s f x = cc

  -- of two head forms of one form, both parts or neither
  abbrev at_head_of : Option Shape → ℕ → Bool
  at_head_of (Some AnApp) zero = true
  at_head_of (Some AFst) zero = true
  at_head_of (Some ASnd) zero = true
  at_head_of _ i = false

  at_head-shape : (t : Core) (i : ℕ) → is_at_head t i ≡ at_head_of (shape_of t) i
  at_head-shape (App k m n) zero = refl
  at_head-shape (App k m n) (suc i) = refl
  at_head-shape (Fst m) zero = refl
  at_head-shape (Fst m) (suc i) = refl
  at_head-shape (Snd m) zero = refl
  at_head-shape (Snd m) (suc i) = refl
  at_head-shape (Var j) i = refl
  at_head-shape (Const j) i = refl
  at_head-shape Prop i = refl
  at_head-shape (Univ l) i = refl
  at_head-shape (Pi x a r) i = refl
  at_head-shape (Lam x a r) i = refl
  at_head-shape (Sigma x a r) i = refl
  at_head-shape (Pair x a r m n) i = refl
  at_head-shape (Let x m n) i = refl

  pub same_at_head : (h k : Core) (i : ℕ) → shape_of h ≡ shape_of k → is_at_head h i ≡ is_at_head k i
  same_at_head h k i e = at_head-shape h i ∙ (ap (λ o. at_head_of o i) e ∙ sym (at_head-shape k i))

  module _ (free : FreeHoles) where
    -- the walk through parts under a binder, or none
    pub plain_walk : (t u : Core) (at : Position) (old new : List Binder) (result : Result ℕ Stop) → Walks b free t u at old new result → PartWalks b free None t u at old new result
    plain_walk t u at old new (Ok steps) w = w
    plain_walk t u at old new (Err (Apart p q)) w =
        let short = w.short in
        record { deeper = w.deeper; added = w.added; short = omega arith; pair = record { further = w.deeper; split = refl; pair = w.pair }; ends = w.ends; left_low = w.left_low; right_low = w.right_low }
    plain_walk t u at old new (Err Budget) w = w
    plain_walk t u at old new (Err Whole) w = w
    plain_walk t u at old new (Err Memory) w = tt

    pub bound_stops : (t u : Core) (x : Binder) (at : Position) (old new : List Binder) (why : Stop) → Walks b free t u at (old ++ x ∷ []) new (Err why) → PartWalks b free (Some x) t u at old new (Err why)
    bound_stops t u x at old new (Apart p q) w =
        let short = w.short in
        record {
          deeper = x ∷ w.deeper;
          added = w.added ∙ append_assoc old (x ∷ []) w.deeper;
          short = omega arith;
          pair = record { further = w.deeper; split = refl; pair = w.pair };
          ends = w.ends;
          left_low = w.left_low;
          right_low = w.right_low;
        }
    bound_stops t u x at old new Budget w = w
    bound_stops t u x at old new Whole w = w
    bound_stops t u x at old new Memory w = tt

    -- the walk stopped in part i
    pub in_part : (h k : Core) (i : ℕ) (l r : Branch) (at : Position) (old new : List Binder) (why : Stop) → 0 < at.room → IsHeadForm b h → IsHeadForm b k → IsFalse (has_free_head free h) → IsFalse (has_free_head free k)
        → shape_of h ≡ shape_of k → slice_get (parts_of h) i ≡ Some l → slice_get (parts_of k) i ≡ Some r → AgreeBefore b i h k
        → PartWalks b free l.under l.term r.term (position_inside at h i) old new (Err why) → PartsWalk b free h k i at old new (Err why)
    in_part h k i l r at old new (Apart p q) lt sh sk fh fk form x y before w =
        let short = w.short in
        let s = some_shape h i l x in
        record {
          deeper = w.deeper;
          added = w.added;
          short = omega arith;
          pair = subst (λ z. Corresponds b free h k z p q) (sym w.pair.split) (turn i (0, record { reaches = refl; last = sh }) (0, record { reaches = refl; last = sk }) fh fk s.1 (sym form ∙ s.1) x y before w.pair.pair);
          ends = w.ends;
          left_low = w.left_low;
          right_low = w.right_low;
        }
    in_part h k i l r at old new Budget lt sh sk fh fk form x y before w =
        let over = w.over in
        record {
          left = w.left + 0;
          right = w.right + 0;
          left_has = subst (λ z. PartsHaveSteps b z (w.left + 0)) (sym (drop_some (parts_of h) i l x)) (and_then w.left w.left_has up_to_here);
          right_has = subst (λ z. PartsHaveSteps b z (w.right + 0)) (sym (drop_some (parts_of k) i r y)) (and_then w.right w.right_has up_to_here);
          over = omega arith;
        }
    in_part h k i l r at old new Whole lt sh sk fh fk form x y before w = w
    in_part h k i l r at old new Memory lt sh sk fh fk form x y before w = tt

    -- the steps of one part and then those of the rest
    more_steps : (t : Core) (i next m n : ℕ) (l : Branch) → next ≡ suc i → slice_get (parts_of t) i ≡ Some l → HasSteps b l.term m → PartsHaveSteps b (drop next (parts_of t)) n → PartsHaveSteps b (drop i (parts_of t)) (m + n)
    more_steps t i next m n l is x a c = subst (λ z. PartsHaveSteps b z (m + n)) (sym (drop_some (parts_of t) i l x)) (and_then m a (subst (λ z. PartsHaveSteps b (drop z (parts_of t)) n) is c))

    -- it stopped behind part i
    pub behind_part : (h k : Core) (i next m n steps : ℕ) (l r : Branch) (at : Position) (old new : List Binder) (why : Stop) → slice_get (parts_of h) i ≡ Some l → slice_get (parts_of k) i ≡ Some r → HasSteps b l.term m → HasSteps b r.term n
        → next ≡ suc i → m + n ≡ steps → steps ≤ at.limit → PartsWalk b free h k next (record at { limit = at.limit - steps }) old new (Err why) → PartsWalk b free h k i at old new (Err why)
    behind_part h k i next m n steps l r at old new (Apart p q) x y a c is sum le w = w
    behind_part h k i next m n steps l r at old new Budget x y a c is sum le w =
        let over = w.over in
        record { left = m + w.left; right = n + w.right; left_has = more_steps h i next m w.left l is x a w.left_has; right_has = more_steps k i next n w.right r is y c w.right_has; over = omega arith }
    behind_part h k i next m n steps l r at old new Whole x y a c is sum le w = w
    behind_part h k i next m n steps l r at old new Memory x y a c is sum le w = tt

    -- it passed part i and those behind it
    pub both_pass : (h k : Core) (i next m n steps more : ℕ) (l r : Branch) (at : Position) (old new : List Binder) → slice_get (parts_of h) i ≡ Some l → slice_get (parts_of k) i ≡ Some r → HasSteps b l.term m → HasSteps b r.term n
        → next ≡ suc i → m + n ≡ steps → steps ≤ at.limit → PartsWalk b free h k next (record at { limit = at.limit - steps }) old new (Ok more) → PartsWalk b free h k i at old new (Ok (steps + more))
    both_pass h k i next m n steps more l r at old new x y a c is sum le w =
        let s = w.sum in
        let within = w.within in
        record {
          agreed = w.agreed;
          kept = w.kept;
          left = m + w.left;
          right = n + w.right;
          left_has = more_steps h i next m w.left l is x a w.left_has;
          right_has = more_steps k i next n w.right r is y c w.right_has;
          sum = omega arith;
          within = omega arith;
        }

    pub none_left : (h k : Core) (i : ℕ) (at : Position) (old : List Binder) → AllAgree b h k → PartsWalk b free h k i at old old (Ok 0)
    none_left h k i at old all =
        record { agreed = all; kept = refl; left = 0; right = 0; left_has = up_to_here; right_has = up_to_here; sum = refl; within = omega arith }

module _ (b : CoreBodies) (free : FreeHoles) (t : Core) (i : ℕ) (p : Branch) (at : Position) where
  -- what holds of a term holds of its numbered part, one part further on
  pub part_head : is_at_head t i ≡ true → IsHeadForm b t → IsFalse (has_free_head free t) → slice_get (parts_of t) i ≡ Some p → IsHeadForm b p.term × IsFalse (has_free_head free p.term)
  part_head e s f x = head_part b free t i p e s f x

  pub part_normal : IsNormal b t × (depth t < at.room) → depth p.term < depth t → slice_get (parts_of t) i ≡ Some p → IsNormal b p.term × (depth p.term < at.room - 1)
  part_normal n less x = let d = n.1 in (parts_end b t n.0 i p x, omega arith)
