-- One part of two head forms in a walk, as the code finds it.
use Rattle.std.proofs.Common.{◌≡◌, ℕ, zero, suc, ◌+◌, ◌-◌, ◌≤◌, ◌<◌, if◌then◌else◌, drop, slice_get, Option, Some, None, Ok, Err, List, ◌∷◌, ◌++◌, option_map, refl, sym, ap, ◌∙◌, subst, arith}
use Rattle.std.proofs.lemmas.List.{map-append, append_assoc}
use Rattle.std.proofs.lemmas.List.Elements.{All-append}
use Rattle.lego_base.specs.declared.place.Place.{Place}
use Rattle.lego_level.specs.declared.constraint.Constraint.{Constraint}
use Rattle.lego_term.specs.Trees.{Core, Pi, Lam, App, Sigma, Pair, Fst, Snd, Let}
use Rattle.lego_term.specs.Parts.{Shape, Branch, plain_part, bound_part, parts_of, shape_of}
use Rattle.lego_laws.specs.Parallel.{CoreBodies}
use Rattle.lego_laws.specs.Counting.{Walked, PartsWalked, next_part}
use Rattle.lego_laws.specs.Comparison.{Compared}
use Rattle.lego_level.specs.Graphs.{pair_of, pairs_of}
use Rattle.lego_laws.specs.Facing.{order_at, crossed}
use Rattle.lego_compare.specs.declared.relation.Relation.{Relation}
use Rattle.lego_compare.specs.declared.stop.Stop.{Stop}
use Rattle.lego_compare.specs.private.Codes.{order_of, relation_at, binds, term_of}
use Rattle.lego_compare.specs.Paths.{Leads}
use Rattle.lego_compare.specs.private.Walks.{Differ, StopsBy, PartsWalk, PartsCompared, c_next, Passed}
use Rattle.lego_compare.proofs.PartLemmas.{drop_some, part_stops, rest_stops, order_of_part}

pub record PartIs (t : Core) (i : ℕ) (x : Core) : Type 0 where
  pub p : Branch
  pub at : slice_get (parts_of t) i ≡ Some p
  pub is : p.term ≡ x

pub part_is : (t : Core) (i : ℕ) (x : Core) → Some x ≡ option_map term_of (slice_get (parts_of t) i) → PartIs t i x
part_is t i x e = by_item (slice_get (parts_of t) i) refl e
  where
    by_item : (o : Option Branch) → slice_get (parts_of t) i ≡ o → Some x ≡ option_map term_of o → PartIs t i x
    by_item None z e = cc
    by_item (Some p) z e = record { p = p; at = z; is = cc }

pub shape_by_part : (t : Core) (i : ℕ) (p : Branch) → slice_get (parts_of t) i ≡ Some p → (s : Shape) × (shape_of t ≡ Some s)
shape_by_part (Pi x a c) i p e = (_, refl)
shape_by_part (Lam x a c) i p e = (_, refl)
shape_by_part (App x a c) i p e = (_, refl)
shape_by_part (Sigma x a c) i p e = (_, refl)
shape_by_part (Pair x a c m n) i p e = (_, refl)
shape_by_part (Fst m) i p e = (_, refl)
shape_by_part (Snd m) i p e = (_, refl)
shape_by_part (Let x a c) i p e = (_, refl)
shape_by_part _ i p e = cc

crossed_by : (before : ℕ) (o : Branch) (p : Branch) → o ≡ p → crossed before o ≡ crossed before p
crossed_by before o p e = ap (crossed before) e

suc_of : (n : ℕ) → n + 1 ≡ suc n
suc_of n = omega arith

pub binds_crossed : (t : Core) (i : ℕ) (p : Branch) (before : ℕ) → slice_get (parts_of t) i ≡ Some p → (if binds t i then before + 1 else before) ≡ crossed before p
binds_crossed (Pi x a c) zero p before e = crossed_by before (plain_part a) p (cc)
binds_crossed (Pi x a c) (suc zero) p before e = suc_of before ∙ crossed_by before (bound_part x c) p (cc)
binds_crossed (Lam x a c) zero p before e = crossed_by before (plain_part a) p (cc)
binds_crossed (Lam x a c) (suc zero) p before e = suc_of before ∙ crossed_by before (bound_part x c) p (cc)
binds_crossed (Sigma x a c) zero p before e = crossed_by before (plain_part a) p (cc)
binds_crossed (Sigma x a c) (suc zero) p before e = suc_of before ∙ crossed_by before (bound_part x c) p (cc)
binds_crossed (App x a c) zero p before e = crossed_by before (plain_part a) p (cc)
binds_crossed (App x a c) (suc zero) p before e = crossed_by before (plain_part c) p (cc)
binds_crossed (Pair x a c m n) zero p before e = crossed_by before (plain_part a) p (cc)
binds_crossed (Pair x a c m n) (suc zero) p before e = suc_of before ∙ crossed_by before (bound_part x c) p (cc)
binds_crossed (Pair x a c m n) (suc (suc zero)) p before e = crossed_by before (plain_part m) p (cc)
binds_crossed (Pair x a c m n) (suc (suc (suc zero))) p before e = crossed_by before (plain_part n) p (cc)
binds_crossed (Fst m) zero p before e = crossed_by before (plain_part m) p (cc)
binds_crossed (Let x a c) zero p before e = crossed_by before (plain_part a) p (cc)
binds_crossed (Let x a c) (suc zero) p before e = suc_of before ∙ crossed_by before (bound_part x c) p (cc)
binds_crossed (Snd m) zero p before e = crossed_by before (plain_part m) p (cc)
binds_crossed _ _ p before e = cc

-- the walk stopped in the part
pub in_part : (b : CoreBodies) (r : Relation) (h k left right : Core) (i limit room before : ℕ) (place : Place) (old new : List Constraint) (why : Stop) → 0 < room → shape_of h ≡ shape_of k → Some left ≡ option_map term_of (slice_get (parts_of h) i) → Some right ≡ option_map term_of (slice_get (parts_of k) i) → StopsBy (Differ b (order_of (relation_at r h i)) left right) (Walked b left right) (Leads b left) (Leads b right) limit (room - 1) (if binds h i then before + 1 else before) why → PartsWalk b r h k i limit room before place old new (Err why)
in_part b r h k left right i limit room before place old new why lt form x y w =
    let p = part_is h i left x in
    let q = part_is k i right y in
    let s = shape_by_part h i p.p p.at in
    let w1 = subst (λ z. StopsBy (Differ b (order_of (relation_at r h i)) z right) (Walked b z right) (Leads b z) (Leads b right) limit (room - 1) (if binds h i then before + 1 else before) why) (sym p.is) w in
    let w2 = subst (λ z. StopsBy (Differ b (order_of (relation_at r h i)) p.p.term z) (Walked b p.p.term z) (Leads b p.p.term) (Leads b z) limit (room - 1) (if binds h i then before + 1 else before) why) (sym q.is) w1 in
    let w3 = subst (λ z. StopsBy (Differ b z p.p.term q.p.term) (Walked b p.p.term q.p.term) (Leads b p.p.term) (Leads b q.p.term) limit (room - 1) (if binds h i then before + 1 else before) why) (order_of_part r h s.0 i s.1) w2 in
    let w4 = subst (λ z. StopsBy (Differ b (order_at (order_of r) s.0 i) p.p.term q.p.term) (Walked b p.p.term q.p.term) (Leads b p.p.term) (Leads b q.p.term) limit (room - 1) z why) (binds_crossed h i p.p before p.at) w3 in
    let u = part_stops b (order_of r) h k i s.0 p.p q.p s.1 (sym form ∙ s.1) p.at q.at limit room before why lt w4 (drop (suc i) (parts_of h)) (drop (suc i) (parts_of k)) in
    rw (drop_some (parts_of h) i p.p p.at, drop_some (parts_of k) i q.p q.at) u

-- it stopped behind the part
pub behind_part : (b : CoreBodies) (r : Relation) (h k left right : Core) (i limit room before m n steps : ℕ) (place : Place) (old mid new : List Constraint) (why : Stop) → Some left ≡ option_map term_of (slice_get (parts_of h) i) → Some right ≡ option_map term_of (slice_get (parts_of k) i) → Walked b left right m n → m + n ≡ steps → steps ≤ limit → PartsWalk b r h k (i + 1) (limit - steps) room before place mid new (Err why) → PartsWalk b r h k i limit room before place old new (Err why)
behind_part b r h k left right i limit room before m n steps place old mid new why x y w sum le rest =
    let p = part_is h i left x in
    let q = part_is k i right y in
    let w1 = subst (λ z. Walked b z right m n) (sym p.is) w in
    let w2 = subst (λ z. Walked b p.p.term z m n) (sym q.is) w1 in
    let rest1 = subst (λ z. PartsWalk b r h k z (limit - steps) room before place mid new (Err why)) (suc_of i) rest in
    let rest2 = subst (λ z. PartsWalk b r h k (suc i) (limit - z) room before place mid new (Err why)) (sym sum) rest1 in
    let u = rest_stops b (order_of r) h k p.p q.p (drop (suc i) (parts_of h)) (drop (suc i) (parts_of k)) m n limit room before why w2 (omega arith) rest2 in
    rw (drop_some (parts_of h) i p.p p.at, drop_some (parts_of k) i q.p q.at) u

-- the walk came through the part and through the rest
pub both_pass : (b : CoreBodies) (r : Relation) (h k left right : Core) (i limit steps more : ℕ) (place : Place) (old mid new : List Constraint) → Some left ≡ option_map term_of (slice_get (parts_of h) i) → Some right ≡ option_map term_of (slice_get (parts_of k) i) → Passed (Walked b left right) (Compared b (order_of (relation_at r h i)) left right) limit place left right b old mid steps → Passed (PartsWalked b (drop (i + 1) (parts_of h)) (drop (i + 1) (parts_of k))) (PartsCompared b r h (i + 1) (drop (i + 1) (parts_of h)) (drop (i + 1) (parts_of k))) (limit - steps) place h k b mid new more → PartsWalk b r h k i limit 0 0 place old new (Ok (steps + more))
both_pass b r h k left right i limit steps more place old mid new x y w rest =
    let p = part_is h i left x in
    let q = part_is k i right y in
    let ws = w.sum in
    let wl = w.within in
    let rs = rest.sum in
    let rl = rest.within in
    let walked1 = subst (λ z. Walked b z right w.left w.right) (sym p.is) w.walked in
    let walked2 = subst (λ z. Walked b p.p.term z w.left w.right) (sym q.is) walked1 in
    let compared1 = subst (λ z. Compared b (order_of (relation_at r h i)) z right (pairs_of w.more)) (sym p.is) w.compared in
    let compared2 = subst (λ z. Compared b (order_of (relation_at r h i)) p.p.term z (pairs_of w.more)) (sym q.is) compared1 in
    let restw = subst (λ z. PartsWalked b (drop z (parts_of h)) (drop z (parts_of k)) rest.left rest.right) (suc_of i) rest.walked in
    let restc = subst (λ z. PartsCompared b r h z (drop z (parts_of h)) (drop z (parts_of k)) (pairs_of rest.more)) (suc_of i) rest.compared in
    rw (drop_some (parts_of h) i p.p p.at, drop_some (parts_of k) i q.p q.at) (record {
      more = w.more ++ rest.more;
      added = rest.added ∙ (ap (λ z. z ++ rest.more) w.added ∙ append_assoc old w.more rest.more);
      compared = subst (λ z. PartsCompared b r h i (p.p ∷ drop (suc i) (parts_of h)) (q.p ∷ drop (suc i) (parts_of k)) z) (sym (map-append pair_of w.more rest.more)) (c_next compared2 restc);
      left = w.left + rest.left;
      right = w.right + rest.right;
      walked = next_part walked2 restw;
      sum = omega arith;
      within = omega arith;
      placed = All-append (λ c. c.place ≡ Some place) w.more rest.more w.placed rest.placed;
    })
