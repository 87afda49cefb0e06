-- A walk along causes is a cycle.
use Rattle.std.proofs.Common.{◌≡◌, ℕ, ◌+◌, ◌<◌, ◌≤◌, ◌⊎◌, true, false, not, eqb, Option, Some, None, List, [], ◌∷◌, ◌++◌, map, sum_by, Contains, refl, sym, ap, ◌∙◌, inl, inr, ⊎_elim, arith, subst}
use Rattle.std.specs.List.{AllByRecursion}
use Rattle.std.specs.Option.{option_eq}
use Rattle.std.proofs.lemmas.Bool.{cases_eq}
use Rattle.std.proofs.lemmas.Bool.Decides.{nat_tests}
use Rattle.std.proofs.lemmas.List.Sums.{sum_by-cons, sum_by_push}
use Rattle.std.proofs.lemmas.List.Elements.{Contains-push_cases}
use Rattle.lego_term.specs.Levels.{Assignment, Satisfies, node_value}
use Rattle.lego_level.specs.declared.constraint.Constraint.{Constraint}
use Rattle.lego_level.specs.declared.direction.Direction.{Direction}
use Rattle.lego_level.specs.declared.direction.Direction.TheVariants.{Up, Down}
use Rattle.lego_level.specs.declared.draft.Reached.{Reached}
use Rattle.lego_level.specs.declared.search.Task.{Task}
use Rattle.lego_level.specs.Graphs.{IsWalk, Differ, IsClosedWalk, IsKnown}
use Rattle.lego_level.specs.private.Incidence.{near_of, far_of}
use Rattle.lego_level.specs.private.Potentials.{low_of, high_of}
use Rattle.lego_level.specs.private.Searches.{unreached, IsEdge, Turns}
use Rattle.lego_level.proofs.MemberLemmas.{contains_none, contains_cases, contains_head, contains_tail}

known_more : (t : Task) (cs : List Constraint) (c : Constraint) → IsEdge t cs c → IsKnown (t.added ∷ cs) c
known_more t cs c h = ⊎_elim {C = IsKnown (t.added ∷ cs) c} (λ k. inl (contains_tail t.added cs c k)) (λ z. inr (z.0, z.1)) h

-- the cause of a reached node in either direction: near and far are its ends
pub record IsCause (way : Direction) (v : Option ℕ → ℕ) (all : List Constraint) (d : Option ℕ → Reached) (u : Option ℕ) (c : Constraint) : Type 0 where
  pub known : IsKnown all c
  pub far : far_of way c ≡ u
  pub tight : (d u).gain + high_of v c ≡ (d (near_of way c)).gain + low_of v c
  pub rank : (d (near_of way c)).rank < (d u).rank
  pub near : 0 < (d (near_of way c)).gain

-- the same, of all that a cycle is made of
pub record Rounds (way : Direction) (e : Constraint) (gain : ℕ) (v : Option ℕ → ℕ) (all : List Constraint) (d : Option ℕ → Reached) (c : Constraint) : Type 0 where
  pub known : IsKnown all c
  pub added : IsKnown all e
  pub far : far_of way c ≡ near_of way e
  pub end : d (near_of way e) ≡ unreached
  pub near : 0 < (d (near_of way c)).gain
  pub over : high_of v c < (d (near_of way c)).gain + low_of v c
  pub more : 0 < gain
  pub lack : gain + high_of v e ≡ low_of v e
  pub first : (d (far_of way e)).gain ≡ gain
  pub rank : 0 < (d (far_of way e)).rank
  pub causes : (u : Option ℕ) → 0 < (d u).gain → (u ≡ far_of way e → ⊥) → IsCause way v all d u (d u).cause

pub rounds : (t : Task) (way : Direction) (v : Option ℕ → ℕ) (cs : List Constraint) (d : Option ℕ → Reached) (c : Constraint) → t.direction ≡ way → Turns t v cs d c → Rounds way t.added t.gain v (t.added ∷ cs) d c
rounds t way v cs d c is z = subst (λ w. Rounds w t.added t.gain v (t.added ∷ cs) d c) is (record {
  known = known_more t cs c z.edge;
  added = inl (contains_head t.added cs);
  far = z.far;
  end = z.end;
  near = z.near;
  over = z.over;
  more = z.more;
  lack = z.lack;
  first = z.first.gain;
  rank = z.first.rank;
  causes = λ u pos apart. ⊎_elim {C = IsCause t.direction v (t.added ∷ cs) d u (d u).cause} (λ k. absurd (apart k))
      (λ x. record { known = known_more t cs (d u).cause x.edge; far = x.far; tight = x.tight; rank = x.rank; near = z.done (near_of t.direction (d u).cause) x.near }) (z.linked u pos);
})

-- the walk of a search that went up, from a reached node to the tail of the added constraint
pub record WalkedBack (e : Constraint) (v : Option ℕ → ℕ) (all : List Constraint) (d : Option ℕ → Reached) (at : Option ℕ) (walk : List Constraint) : Type 0 where
  pub walks : IsWalk at walk e.low.base
  pub once : Differ (map (λ x. x.low.base) walk)
  pub ranks : AllByRecursion (λ x. (d at).rank ≤ (d x.low.base).rank) walk
  pub positive : v e.low.base + sum_by (λ x. x.high.plus) walk < v at + (d at).gain + sum_by (λ x. x.low.plus) walk
  pub known : (x : Constraint) → Contains walk x → IsKnown all x
  pub reached : 0 < (d at).gain

ranks_weaker : (d : Option ℕ → Reached) (a b : ℕ) (xs : List Constraint) → a ≤ b → AllByRecursion (λ x. b ≤ (d x.low.base).rank) xs → AllByRecursion (λ x. a ≤ (d x.low.base).rank) xs
ranks_weaker d a b [] h all = all
ranks_weaker d a b (x ∷ xs) h all = let k = all.0 in (omega (arith, h, k), ranks_weaker d a b xs h all.1)

ranks_differ : (d : Option ℕ → Reached) (base : Option ℕ) (b : ℕ) (xs : List Constraint) → (d base).rank < b → AllByRecursion (λ x. b ≤ (d x.low.base).rank) xs → AllByRecursion (λ y. base ≡ y → ⊥) (map (λ x. x.low.base) xs)
ranks_differ d base b [] h all = all
ranks_differ d base b (x ∷ xs) h all = ((λ e. let k : (d base).rank ≡ (d x.low.base).rank = ap (λ y. (d y).rank) e in let a = all.0 in absurd (omega (arith, k, h, a))), ranks_differ d base b xs h all.1)

module _ (e : Constraint) (gain : ℕ) (v : Option ℕ → ℕ) (all : List Constraint) (d : Option ℕ → Reached) (c : Constraint) where
  pub back_starts : Rounds Up e gain v all d c → WalkedBack e v all d c.low.base (c ∷ [])
  back_starts z = let over = z.over in let k : v c.high.base ≡ v e.low.base = ap v z.far in record {
    walks = (refl, z.far);
    once = (tt, tt);
    ranks = (omega arith, tt);
    positive = omega (arith, over, k);
    known = λ x h. ⊎_elim {C = IsKnown all x} (λ is. subst (IsKnown all) (sym is) z.known) (λ n. absurd (contains_none x n)) (contains_cases c [] x h);
    reached = z.near;
  }

  pub back_more : (at : Option ℕ) (walk : List Constraint) → Rounds Up e gain v all d c → WalkedBack e v all d at walk → (at ≡ e.high.base → ⊥)
      → WalkedBack e v all d (d at).cause.low.base ((d at).cause ∷ walk) × ((d (d at).cause.low.base).rank < (d at).rank)
  back_more at walk z w apart =
      let x = z.causes at w.reached apart in let xt = x.tight in let xr = x.rank in let p = w.positive in
      let k : v (d at).cause.high.base ≡ v at = ap v x.far in (
        record {
          walks = (refl, subst (λ b. IsWalk b walk e.low.base) (sym x.far) w.walks);
          once = (ranks_differ d (d at).cause.low.base (d at).rank walk xr w.ranks, w.once);
          ranks = (omega arith, ranks_weaker d (d (d at).cause.low.base).rank (d at).rank walk (omega (arith, xr)) w.ranks);
          positive = let h = sum_by-cons (λ (y : Constraint). y.high.plus) (d at).cause walk in let l = sum_by-cons (λ (y : Constraint). y.low.plus) (d at).cause walk in omega (arith, p, xt, h, l, k);
          known = λ y h. ⊎_elim {C = IsKnown all y} (λ is. subst (IsKnown all) (sym is) x.known) (λ n. w.known y n) (contains_cases (d at).cause walk y h);
          reached = x.near;
        },
        xr,
      )

  pub back_ends : (at : Option ℕ) (walk : List Constraint) → Rounds Up e gain v all d c → WalkedBack e v all d at walk → at ≡ e.high.base
      → IsClosedWalk e.low.base (e ∷ walk) × ((x : Constraint) → Contains (e ∷ walk) x → IsKnown all x)
  back_ends at walk z w is =
      let p = w.positive in let lack = z.lack in let first = z.first in let rank = z.rank in
      let g : (d at).gain ≡ (d e.high.base).gain = ap (λ y. (d y).gain) is in let r : (d at).rank ≡ (d e.high.base).rank = ap (λ y. (d y).rank) is in
      let va : v at ≡ v e.high.base = ap v is in let low : (d e.low.base).rank ≡ 0 = ap (λ (y : Reached). y.rank) z.end in
      let h = sum_by-cons (λ (y : Constraint). y.high.plus) e walk in let l = sum_by-cons (λ (y : Constraint). y.low.plus) e walk in (
        record {
          closed = (refl, subst (λ b. IsWalk b walk e.low.base) is w.walks);
          once = (ranks_differ d e.low.base (d at).rank walk (omega (arith, low, r, rank)) w.ranks, w.once);
          positive = omega (arith, p, lack, first, g, va, h, l);
        },
        λ x m. ⊎_elim {C = IsKnown all x} (λ same. subst (IsKnown all) (sym same) z.added) (λ n. w.known x n) (contains_cases e walk x m),
      )

-- a walk goes on
pub walk_push : (from at : Option ℕ) (walk : List Constraint) (y : Constraint) → IsWalk from walk at → y.low.base ≡ at → IsWalk from (walk ++ y ∷ []) y.high.base
walk_push from at [] y w is = (is ∙ sym w, refl)
walk_push from at (x ∷ walk) y w is = (w.0, walk_push x.high.base at walk y w.1 is)

differs_push : (base : Option ℕ) (walk : List Constraint) (y : Constraint) → AllByRecursion (λ z. base ≡ z → ⊥) (map (λ x. x.low.base) walk) → (base ≡ y.low.base → ⊥) → AllByRecursion (λ z. base ≡ z → ⊥) (map (λ x. x.low.base) (walk ++ y ∷ []))
differs_push base [] y all h = (h, tt)
differs_push base (x ∷ walk) y all h = (all.0, differs_push base walk y all.1 h)

pub once_push : (walk : List Constraint) (y : Constraint) → Differ (map (λ x. x.low.base) walk) → AllByRecursion (λ x. x.low.base ≡ y.low.base → ⊥) walk → Differ (map (λ x. x.low.base) (walk ++ y ∷ []))
once_push [] y once apart = (tt, tt)
once_push (x ∷ walk) y once apart = (differs_push x.low.base walk y once.0 apart.0, once_push walk y once.1 apart.1)

-- where the low node of a constraint of the walk is
abbrev pub IsEarlier : Constraint → (Option ℕ → Reached) → ℕ → Constraint → Type 0
IsEarlier e d rank x = (x.low.base ≡ e.low.base) ⊎ ((x.low.base ≡ e.high.base) ⊎ (rank < (d x.low.base).rank))

earlier_push : (e : Constraint) (d : Option ℕ → Reached) (a b : ℕ) (walk : List Constraint) (y : Constraint) → a < b → AllByRecursion (IsEarlier e d b) walk → IsEarlier e d a y → AllByRecursion (IsEarlier e d a) (walk ++ y ∷ [])
earlier_push e d a b [] y l all h = (h, tt)
earlier_push e d a b (x ∷ walk) y l all h = (⊎_elim {C = IsEarlier e d a x} (λ k. inl k) (λ k. inr (⊎_elim {C = (x.low.base ≡ e.high.base) ⊎ (a < (d x.low.base).rank)} (λ m. inl m) (λ m. inr (omega (arith, m, l))) k)) all.0, earlier_push e d a b walk y l all.1 h)

earlier_apart : (e : Constraint) (d : Option ℕ → Reached) (walk : List Constraint) (y : Constraint) → (y.low.base ≡ e.low.base → ⊥) → (y.low.base ≡ e.high.base → ⊥) → AllByRecursion (IsEarlier e d (d y.low.base).rank) walk → AllByRecursion (λ x. x.low.base ≡ y.low.base → ⊥) walk
earlier_apart e d [] y n m all = tt
earlier_apart e d (x ∷ walk) y n m all = (
  (λ is. ⊎_elim {C = ⊥} (λ k. n (sym is ∙ k)) (λ k. ⊎_elim {C = ⊥} (λ j. m (sym is ∙ j)) (λ j. let r : (d x.low.base).rank ≡ (d y.low.base).rank = ap (λ z. (d z).rank) is in absurd (omega (arith, r, j))) k) all.0),
  earlier_apart e d walk y n m all.1,
)

-- the walk of a search that went down, from the tail of the added constraint to a reached node
pub record WalkedOn (e : Constraint) (gain : ℕ) (v : Option ℕ → ℕ) (all : List Constraint) (d : Option ℕ → Reached) (at : Option ℕ) (walk : List Constraint) : Type 0 where
  pub walks : IsWalk e.low.base walk at
  pub once : Differ (map (λ x. x.low.base) walk)
  pub earlier : AllByRecursion (IsEarlier e d (d at).rank) walk
  pub positive : v at + sum_by (λ x. x.high.plus) walk + gain < v e.low.base + (d at).gain + sum_by (λ x. x.low.plus) walk
  pub known : (x : Constraint) → Contains walk x → IsKnown all x
  pub reached : 0 < (d at).gain

module _ (e : Constraint) (gain : ℕ) (v : Option ℕ → ℕ) (all : List Constraint) (d : Option ℕ → Reached) (c : Constraint) where
  pub on_starts : Rounds Down e gain v all d c → WalkedOn e gain v all d c.high.base (e ∷ c ∷ [])
  on_starts z =
      let over = z.over in let lack = z.lack in let first = z.first in let more = z.more in let k : v c.low.base ≡ v e.high.base = ap v z.far in
      let none : (d e.high.base).gain ≡ 0 = ap (λ (y : Reached). y.gain) z.end in record {
        walks = (refl, (z.far, refl));
        once = (((λ is. let g : (d e.low.base).gain ≡ (d e.high.base).gain = ap (λ y. (d y).gain) (is ∙ z.far) in absurd (omega (arith, g, first, more, none))), tt), (tt, tt));
        earlier = (inl refl, (inr (inl z.far), tt));
        positive =
            let h = sum_by-cons (λ (y : Constraint). y.high.plus) e (c ∷ []) in let l = sum_by-cons (λ (y : Constraint). y.low.plus) e (c ∷ []) in
            let h' = sum_by-cons (λ (y : Constraint). y.high.plus) c [] in let l' = sum_by-cons (λ (y : Constraint). y.low.plus) c [] in omega (arith, over, lack, k, h, l, h', l');
        known = λ x m. ⊎_elim {C = IsKnown all x} (λ is. subst (IsKnown all) (sym is) z.added)
            (λ n. ⊎_elim {C = IsKnown all x} (λ is. subst (IsKnown all) (sym is) z.known) (λ o. absurd (contains_none x o)) (contains_cases c [] x n)) (contains_cases e (c ∷ []) x m);
        reached = z.near;
      }

  pub on_more : (at : Option ℕ) (walk walk' : List Constraint) → Rounds Down e gain v all d c → WalkedOn e gain v all d at walk → (at ≡ e.low.base → ⊥) → walk' ≡ walk ++ (d at).cause ∷ []
      → WalkedOn e gain v all d (d at).cause.high.base walk' × ((d (d at).cause.high.base).rank < (d at).rank)
  on_more at walk walk' z w apart is =
      let x = z.causes at w.reached apart in let xt = x.tight in let xr = x.rank in let p = w.positive in let pos = w.reached in
      let k : v (d at).cause.low.base ≡ v at = ap v x.far in
      let none : (d e.high.base).gain ≡ 0 = ap (λ (y : Reached). y.gain) z.end in
      let low_rank : (d (d at).cause.low.base).rank ≡ (d at).rank = ap (λ y. (d y).rank) x.far in
      let walked : WalkedOn e gain v all d (d at).cause.high.base (walk ++ (d at).cause ∷ []) = record {
        walks = walk_push e.low.base at walk (d at).cause w.walks x.far;
        once = once_push walk (d at).cause w.once (earlier_apart e d walk (d at).cause (λ n. apart (sym x.far ∙ n))
            (λ n. let g : (d at).gain ≡ (d e.high.base).gain = ap (λ y. (d y).gain) (sym x.far ∙ n) in absurd (omega (arith, g, none, pos)))
            (subst (λ r. AllByRecursion (IsEarlier e d r) walk) (sym low_rank) w.earlier));
        earlier = earlier_push e d (d (d at).cause.high.base).rank (d at).rank walk (d at).cause xr w.earlier (inr (inr (omega (arith, xr, low_rank))));
        positive = let h = sum_by_push (λ (y : Constraint). y.high.plus) walk (d at).cause in let l = sum_by_push (λ (y : Constraint). y.low.plus) walk (d at).cause in omega (arith, p, xt, h, l, k);
        known = λ y m. ⊎_elim {C = IsKnown all y} (λ n. w.known y n) (λ same. subst (IsKnown all) same x.known) (Contains-push_cases walk (d at).cause y m);
        reached = x.near;
      } in (subst (λ ys. WalkedOn e gain v all d (d at).cause.high.base ys) (sym is) walked, xr)

  pub on_ends : (at : Option ℕ) (walk : List Constraint) → Rounds Down e gain v all d c → WalkedOn e gain v all d at walk → at ≡ e.low.base → IsClosedWalk e.low.base walk
  on_ends at walk z w is =
      let p = w.positive in let first = z.first in let g : (d at).gain ≡ (d e.low.base).gain = ap (λ y. (d y).gain) is in let va : v at ≡ v e.low.base = ap v is in record {
        closed = subst (λ b. IsWalk e.low.base walk b) is w.walks;
        once = w.once;
        positive = omega (arith, p, first, g, va);
      }

-- along a walk whose constraints are satisfied, values rise by the total
along : (v : Assignment) (from end : Option ℕ) (walk : List Constraint) → IsWalk from walk end → ((c : Constraint) → Contains walk c → Satisfies v c.low c.high)
    → node_value v from + sum_by (λ x. x.low.plus) walk ≤ node_value v end + sum_by (λ x. x.high.plus) walk
along v from end [] w all = let k : node_value v from ≡ node_value v end = ap (node_value v) w in omega (arith, k)
along v from end (c ∷ cs) w all =
    let k : node_value v c.low.base ≡ node_value v from = ap (node_value v) w.0 in
    let s = all c (contains_head c cs) in
    let h = sum_by-cons (λ (x : Constraint). x.high.plus) c cs in let l = sum_by-cons (λ (x : Constraint). x.low.plus) c cs in
    let r = along v c.high.base end cs w.1 (λ x h. all x (contains_tail c cs x h)) in omega (arith, k, s, r, h, l)

-- no assignment satisfies a cycle of known constraints
pub cycle_excludes : (v : Assignment) (from : Option ℕ) (walk all : List Constraint) → IsClosedWalk from walk → ((c : Constraint) → Contains walk c → IsKnown all c)
    → ((c : Constraint) → Contains all c → Satisfies v c.low c.high) → ⊥
cycle_excludes v from walk all w known meets =
    let k = along v from from walk w.closed (λ c h. ⊎_elim {C = Satisfies v c.low c.high} (λ y. meets c y)
    (λ z. subst (λ (c : Constraint). Satisfies v c.low c.high) (sym z.1) (omega arith)) (known c h)) in
    let p = w.positive in omega (arith, k, p)

pub bases_apart : (a b : Option ℕ) → true ≡ not (option_eq eqb a b) → a ≡ b → ⊥
bases_apart None None h e = cc
bases_apart None (Some y) h e = cc
bases_apart (Some x) None h e = cc
bases_apart (Some x) (Some y) h e = let k : x ≡ y = cc in let t : eqb x y ≡ true = grind (arith, nat_tests) in let z : true ≡ false = h ∙ ap not t in cc

pub bases_same : (a b : Option ℕ) → false ≡ not (option_eq eqb a b) → a ≡ b
bases_same None None h = refl
bases_same None (Some y) h = absurd (cc)
bases_same (Some x) None h = absurd (cc)
bases_same (Some x) (Some y) h = ⊎_elim {C = Some x ≡ Some y} (λ k. ap Some k) (λ ne. absurd (let t : eqb x y ≡ false = grind (arith, nat_tests) in let z : false ≡ true = h ∙ ap not t in cc)) (cases_eq x y)

pub bases_equal : (a b : Option ℕ) → true ≡ option_eq eqb a b → a ≡ b
bases_equal a b h = bases_same a b (ap not h)
