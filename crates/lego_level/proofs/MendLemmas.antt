-- What holds once a search has ended or stopped.
use Rattle.std.proofs.Common.{◌≡◌, ℕ, ◌+◌, ◌<◌, ◌≤◌, true, false, nat_eq, cond, Option, None, List, [], ◌∷◌, refl, sym, ap, ◌∙◌, inl, inr, ⊎_elim, arith, subst}
use Rattle.std.proofs.lemmas.Bool.{cases_eq}
use Rattle.std.proofs.lemmas.Bool.Decides.{nat_tests}
use Rattle.lego_level.specs.declared.constraint.Constraint.{Constraint}
use Rattle.lego_level.specs.declared.direction.Direction.{Direction}
use Rattle.lego_level.specs.declared.direction.Direction.TheVariants.{Up, Down}
use Rattle.lego_level.specs.declared.draft.Reached.{Reached}
use Rattle.lego_level.specs.declared.mend.Outcome.TheVariants.{Mended, Closed}
use Rattle.lego_level.specs.declared.search.Task.{Task}
use Rattle.lego_level.specs.declared.search.Search.{Search}
use Rattle.lego_level.specs.Graphs.{implied}
use Rattle.lego_level.specs.private.Incidence.{near_of, far_of}
use Rattle.lego_level.specs.private.Outcomes.{IsMending, IsOutcome}
use Rattle.lego_level.specs.private.Potentials.{low_of, high_of, IsFeasible}
use Rattle.lego_level.specs.private.Searches.{reached_at, unreached, moved_to, IsMoved, IsScanned, IsEdge, IsUpperZero, IsStop, IsRelaxed, Searches, Stops, Turns}
use Rattle.lego_level.proofs.MemberLemmas.{contains_cases}
use Rattle.lego_level.proofs.SearchLemmas.{relaxed}

pub moved_zero : (v : Option ℕ → ℕ) (d : Option ℕ → Reached) (u : Option ℕ) → (d u).gain ≡ 0 → moved_to v d u ≡ v u
moved_zero v d u e = let t : nat_eq (d u).gain 0 ≡ true = grind (arith, nat_tests) in ap (λ b. cond b (v u) (d u).value) t

pub moved_value : (v : Option ℕ → ℕ) (d : Option ℕ → Reached) (u : Option ℕ) → ((d u).gain ≡ 0 → ⊥) → moved_to v d u ≡ (d u).value
moved_value v d u ne = let t : nat_eq (d u).gain 0 ≡ false = grind (arith, nat_tests) in ap (λ b. cond b (v u) (d u).value) t

stays : (way : Direction) (x y g : ℕ) → g ≡ 0 → y ≡ x → IsMoved way x g y
stays Up x y g e s = omega (arith, e, s)
stays Down x y g e s = omega (arith, e, s)

-- each node has moved by its gain
pub moves : (t : Task) (v : Option ℕ → ℕ) (cs : List Constraint) (s : Search) → Searches t v cs s → (u : Option ℕ) → IsMoved t.direction (v u) (reached_at s.draft u).gain (moved_to v (reached_at s.draft) u)
moves t v cs s z u = let d = reached_at s.draft in ⊎_elim {C = IsMoved t.direction (v u) (d u).gain (moved_to v d u)}
    (λ e. stays t.direction (v u) (moved_to v d u) (d u).gain e (moved_zero v d u e))
    (λ ne. subst (λ y. IsMoved t.direction (v u) (d u).gain y) (sym (moved_value v d u ne)) (z.grown.reached u (omega (arith, ne))).moved) (cases_eq (d u).gain 0)

-- a constraint that moves its far node no further is satisfied by the moved values
satisfied : (way : Direction) (v m : Option ℕ → ℕ) (g : Option ℕ → ℕ) (c : Constraint) → ((u : Option ℕ) → IsMoved way (v u) (g u) (m u)) → g (near_of way c) + low_of v c ≤ g (far_of way c) + high_of v c → low_of m c ≤ high_of m c
satisfied Up v m g c moved h = let a = moved c.low.base in let b = moved c.high.base in omega (arith, a, b, h)
satisfied Down v m g c moved h = let a = moved c.low.base in let b = moved c.high.base in omega (arith, a, b, h)

implied_relaxed : (way : Direction) (t : Task) (v : Option ℕ → ℕ) (cs : List Constraint) (d : Option ℕ → Reached) (u : ℕ) → t.direction ≡ way → (IsUpperZero way None → (d None).gain ≡ 0) → IsFeasible v cs
    → ((c : Constraint) → IsEdge t cs c → IsRelaxed t v d c) → (d (near_of way (implied u))).gain + low_of v (implied u) ≤ (d (far_of way (implied u))).gain + high_of v (implied u)
implied_relaxed Up t v cs d u is zero feasible all = let k = feasible (implied u) (inr (u, refl)) in let z = zero refl in omega (arith, k, z)
implied_relaxed Down t v cs d u is zero feasible all = subst (λ w. (d (near_of w (implied u))).gain + low_of v (implied u) ≤ (d (far_of w (implied u))).gain + high_of v (implied u)) is
    (all (implied u) (inr (u, refl, subst (λ w. IsScanned w t.count u) (sym is) tt)))

-- the zero node does not move up
zero_stays : (t : Task) (v : Option ℕ → ℕ) (cs : List Constraint) (s : Search) → Searches t v cs s → (None ≡ far_of t.direction t.added → ⊥) → IsUpperZero t.direction None → (reached_at s.draft None).gain ≡ 0
zero_stays t v cs s z apart up = ap (λ (r : Reached). r.gain) (z.grown.stops None (inr up) apart)

pub mended : (t : Task) (v : Option ℕ → ℕ) (cs : List Constraint) (s : Search) → Searches t v cs s → s.queue ≡ [] → IsFeasible v cs → (near_of t.direction t.added ≡ far_of t.direction t.added → ⊥)
    → (IsUpperZero t.direction None → None ≡ far_of t.direction t.added → ⊥) → t.gain + high_of v t.added ≡ low_of v t.added → IsFeasible (moved_to v (reached_at s.draft)) (t.added ∷ cs)
mended t v cs s z empty feasible apart zero lack c known =
    let d = reached_at s.draft in let g : Option ℕ → ℕ = λ u. (d u).gain in let all = relaxed t v cs s z feasible empty in
    satisfied t.direction v (moved_to v d) g c (moves t v cs s z) (⊎_elim {C = IsRelaxed t v d c}
    (λ k. ⊎_elim {C = IsRelaxed t v d c}
    (λ e. subst (λ x. IsRelaxed t v d x) (sym e)
    (let n : (d (near_of t.direction t.added)).gain ≡ 0 = ap (λ (r : Reached). r.gain) (z.grown.stops (near_of t.direction t.added) (inl refl) apart) in let f = z.grown.first.gain in omega (arith, n, f, lack)))
    (λ h. all c (inl h)) (contains_cases t.added cs c k))
    (λ y. subst (λ x. IsRelaxed t v d x) (sym y.1) (implied_relaxed t.direction t v cs d y.0 refl (λ up. zero_stays t v cs s z (zero up) up) feasible all)) known)

-- a search that came back leads round
pub turned : (t : Task) (v : Option ℕ → ℕ) (cs : List Constraint) (s : Search) (c : Constraint) → Stops t v cs s c → far_of t.direction c ≡ near_of t.direction t.added → (near_of t.direction t.added ≡ far_of t.direction t.added → ⊥)
    → 0 < t.gain → t.gain + high_of v t.added ≡ low_of v t.added → Turns t v cs (reached_at s.draft) c
turned t v cs s c z back apart more lack =
    let d = reached_at s.draft in let over = z.over in
    let end : d (near_of t.direction t.added) ≡ unreached = z.grown.stops (near_of t.direction t.added) (inl refl) apart in
    let none : (d (far_of t.direction c)).gain ≡ 0 = ap (λ u. (d u).gain) back ∙ ap (λ (r : Reached). r.gain) end in record {
      edge = z.edge;
      far = back;
      end = end;
      near = z.grown.done (near_of t.direction c) z.near;
      over = omega (arith, over, none);
      more = more;
      lack = lack;
      first = z.grown.first;
      linked = λ u pos. (z.grown.reached u pos).source;
      done = z.grown.done;
    }

-- on the way down a search stops at the near node alone
pub stop_down : (t : Task) (u : Option ℕ) → t.direction ≡ Down → IsStop t u → u ≡ near_of t.direction t.added
stop_down t u down h = ⊎_elim {C = u ≡ near_of t.direction t.added} (λ k. k) (λ k. absurd (subst (λ w. IsUpperZero w u) down k)) h

-- what comes of a search that is to mend: it ends, or comes back to the added constraint
module _ (way : Direction) (t : Task) (v : Option ℕ → ℕ) (cs : List Constraint) (s : Search) (m : IsMending way v t) where
  apart : near_of t.direction t.added ≡ far_of t.direction t.added → ⊥
  apart = subst (λ w. near_of w t.added ≡ far_of w t.added → ⊥) (sym m.direction) m.apart

  pub ends : Searches t v cs s → s.queue ≡ [] → IsFeasible v cs → (IsUpperZero way None → None ≡ far_of way t.added → ⊥) → IsOutcome v cs t.added (Mended s.draft)
  ends z empty feasible zero = (mended t v cs s z empty feasible apart (subst (λ w. IsUpperZero w None → None ≡ far_of w t.added → ⊥) (sym m.direction) zero) m.lack, z.touched)

  pub closes : (c : Constraint) → Stops t v cs s c → far_of way c ≡ near_of way t.added → IsOutcome v cs t.added (Closed (record { task = t; draft = s.draft; closing = c }))
  closes c z back = (refl, turned t v cs s c z (subst (λ w. far_of w c ≡ near_of w t.added) (sym m.direction) back) apart m.more m.lack)

pub closes_down : (t : Task) (v : Option ℕ → ℕ) (cs : List Constraint) (s : Search) (c : Constraint) → IsMending Down v t → Stops t v cs s c → IsOutcome v cs t.added (Closed (record { task = t; draft = s.draft; closing = c }))
closes_down t v cs s c m z = closes Down t v cs s m c z (subst (λ w. far_of w c ≡ near_of w t.added) m.direction (stop_down t (far_of t.direction c) m.direction z.stop))
