-- A walk through the parts of two head forms, put together from the walk through one part and that through the rest.
use Rattle.std.proofs.Common.{Option, ◌≡◌, ℕ, zero, suc, ◌+◌, ◌-◌, ◌≤◌, ◌<◌, drop, slice_get, Some, None, List, [], ◌∷◌, refl, ap, ◌∙◌, subst, arith}
use Rattle.lego_term.specs.Trees.{Core, Pi, Lam, App, Sigma, Pair, Fst, Snd, Let}
use Rattle.lego_term.specs.declared.binder.Binder.{Binder}
use Rattle.lego_term.specs.Parts.{Shape, Branch, parts_of, shape_of}
use Rattle.lego_laws.specs.Parallel.{CoreBodies}
use Rattle.lego_laws.specs.Counting.{Walked, PartsWalked, next_part, stopped}
use Rattle.lego_laws.specs.Facing.{Order, order_at, crossed}
use Rattle.lego_compare.specs.declared.relation.Relation.{Relation}
use Rattle.lego_compare.specs.declared.relation.Relation.TheVariants.{Below, Same}
use Rattle.lego_compare.specs.declared.stop.Stop.{Stop}
use Rattle.lego_compare.specs.declared.stop.Stop.TheVariants as stop
use Rattle.lego_compare.specs.declared.stop.Side.TheVariants.{Left, Right}
use Rattle.lego_compare.specs.private.Codes.{order_of, relation_at}
use Rattle.lego_compare.specs.Paths.{Leads, FormLeads, l_part, Large, tree, path}
use Rattle.lego_compare.specs.private.Walks.{Differ, FormsDiffer, d_part, StopsBy}

-- the list from a place on, where there is an item and where there is none
pub drop_some : {X : Type 0} (xs : List X) (i : ℕ) (x : X) → slice_get xs i ≡ Some x → drop i xs ≡ x ∷ drop (suc i) xs
drop_some [] i x e = cc
drop_some (y ∷ ys) zero x e = let s : y ≡ x = cc in ap (λ z. z ∷ ys) s
drop_some (y ∷ ys) (suc i) x e = drop_some ys i x e

pub drop_none : {X : Type 0} (xs : List X) (i : ℕ) → slice_get xs i ≡ None → drop i xs ≡ []
drop_none [] zero e = refl
drop_none [] (suc i) e = refl
drop_none (y ∷ ys) zero e = cc
drop_none (y ∷ ys) (suc i) e = drop_none ys i e

-- the relation of a part is that of its path
pub order_of_part : (r : Relation) (h : Core) (s : Shape) (i : ℕ) → shape_of h ≡ Some s → order_of (relation_at r h i) ≡ order_at (order_of r) s i
order_of_part r h s i e = order_by_form r h s i e
  where
    order_by_form : (r : Relation) (h : Core) (s : Shape) (i : ℕ) → shape_of h ≡ Some s → order_of (relation_at r h i) ≡ order_at (order_of r) s i
    order_by_form Below (Pi x a c) s zero e = grind arith
    order_by_form Below (Pi x a c) s (suc i) e = grind arith
    order_by_form Same (Pi x a c) s zero e = grind arith
    order_by_form Same (Pi x a c) s (suc i) e = grind arith
    order_by_form Below (Lam x a c) s i e = grind arith
    order_by_form Same (Lam x a c) s i e = grind arith
    order_by_form Below (App x a c) s i e = grind arith
    order_by_form Same (App x a c) s i e = grind arith
    order_by_form Below (Sigma x a c) s i e = grind arith
    order_by_form Same (Sigma x a c) s i e = grind arith
    order_by_form Below (Pair x a c m n) s i e = grind arith
    order_by_form Same (Pair x a c m n) s i e = grind arith
    order_by_form Below (Fst m) s i e = grind arith
    order_by_form Same (Fst m) s i e = grind arith
    order_by_form Below (Snd m) s i e = grind arith
    order_by_form Same (Snd m) s i e = grind arith
    order_by_form Below (Let x m n) s i e = grind arith
    order_by_form Same (Let x m n) s i e = grind arith
    order_by_form _ _ s i e = cc

-- the binders of a path and of the part that it goes on with
pub crossed_more : (m n : ℕ) (p : Branch) → crossed m p + n ≡ m + crossed n p
crossed_more m n p = by_binder p.under refl
  where
    by_binder : (o : Option Binder) → p.under ≡ o → crossed m p + n ≡ m + crossed n p
    by_binder None e = rw e refl
    by_binder (Some x) e = rw e (omega arith)

module _ (b : CoreBodies) (o : Order) (h k : Core) where
  -- the walk stopped in part i
  module _ (i : ℕ) (s : Shape) (p q : Branch) (e : shape_of h ≡ Some s) (e' : shape_of k ≡ Some s) (x : slice_get (parts_of h) i ≡ Some p) (y : slice_get (parts_of k) i ≡ Some q) where
    part_large_left : {room nodes levels : ℕ} → 0 < room → Large (Leads b p.term) (room - 1) nodes levels → Large (FormLeads b h) room nodes levels
    part_large_left lt (tree d z) = tree (l_part i x d) z
    part_large_left {room} lt (path {u = u} d) = let n : suc (room - 1) ≡ room = omega arith in path (subst (λ z. FormLeads b h z u) n (l_part i x d))

    part_large_right : {room nodes levels : ℕ} → 0 < room → Large (Leads b q.term) (room - 1) nodes levels → Large (FormLeads b k) room nodes levels
    part_large_right lt (tree d z) = tree (l_part i y d) z
    part_large_right {room} lt (path {u = u} d) = let n : suc (room - 1) ≡ room = omega arith in path (subst (λ z. FormLeads b k z u) n (l_part i y d))

    pub part_stops : (limit room before : ℕ) (why : Stop) → 0 < room → StopsBy (Differ b (order_at o s i) p.term q.term) (Walked b p.term q.term) (Leads b p.term) (Leads b q.term) limit (room - 1) (crossed before p) why → (ps qs : List Branch) → StopsBy (FormsDiffer b o h k) (PartsWalked b (p ∷ ps) (q ∷ qs)) (FormLeads b h) (FormLeads b k) limit room before why
    part_stops limit room before (stop.Differ l r deeper) lt w ps qs =
        let sum = w.sum in
        let more = crossed_more before w.within p in
        record { within = crossed w.within p; sum = sum ∙ more; path = d_part i e e' x y w.path }
    part_stops limit room before stop.Budget lt w ps qs =
        let over = w.over in
        record { left = w.left + 0; right = w.right + 0; walked = next_part w.walked stopped; over = omega arith }
    part_stops limit room before (stop.TooLarge Left nodes levels) lt w ps qs = part_large_left lt w
    part_stops limit room before (stop.TooLarge Right nodes levels) lt w ps qs = part_large_right lt w
    part_stops limit room before stop.Memory lt w ps qs = tt

  -- it stopped behind part i
  pub rest_stops : (p q : Branch) (ps qs : List Branch) (m n limit room before : ℕ) (why : Stop) → Walked b p.term q.term m n → m + n ≤ limit → StopsBy (FormsDiffer b o h k) (PartsWalked b ps qs) (FormLeads b h) (FormLeads b k) (limit - (m + n)) room before why → StopsBy (FormsDiffer b o h k) (PartsWalked b (p ∷ ps) (q ∷ qs)) (FormLeads b h) (FormLeads b k) limit room before why
  rest_stops p q ps qs m n limit room before (stop.Differ l r deeper) w le s = s
  rest_stops p q ps qs m n limit room before stop.Budget w le s =
      let over = s.over in
      record { left = m + s.left; right = n + s.right; walked = next_part w s.walked; over = omega arith }
  rest_stops p q ps qs m n limit room before (stop.TooLarge Left nodes levels) w le s = s
  rest_stops p q ps qs m n limit room before (stop.TooLarge Right nodes levels) w le s = s
  rest_stops p q ps qs m n limit room before stop.Memory w le s = tt
