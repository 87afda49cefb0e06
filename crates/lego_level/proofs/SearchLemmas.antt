-- How a search goes on.
use Rattle.std.proofs.Common.{◌≡◌, ℕ, ◌+◌, ◌<◌, ◌≤◌, ◌⊎◌, Bool, true, false, Option, Some, None, List, [], Contains, refl, sym, ap, ◌∙◌, inl, inr, ⊎_elim, arith, subst}
use Rattle.std.proofs.lemmas.Bool.{cases_eq}
use Rattle.lego_level.specs.declared.constraint.Constraint.{Constraint}
use Rattle.lego_level.specs.declared.draft.Reached.{Reached}
use Rattle.lego_level.specs.declared.search.Task.{Task}
use Rattle.lego_level.specs.declared.search.Search.{Search}
use Rattle.lego_level.specs.Graphs.{IsKnown}
use Rattle.lego_level.specs.private.Incidence.{near_of, far_of}
use Rattle.lego_level.specs.private.Potentials.{low_of, high_of, IsFeasible}
use Rattle.lego_level.specs.private.Searches.{found_at, reached_or, reached_at, unreached, IsTouched, IsEdge, IsStop, IsRelaxed, IsFirst, IsLinked, IsReached, IsQueued, IsAt, Scans, Searches, Stops, IsPut, IsPushed, SameDone}
use Rattle.lego_level.proofs.MemberLemmas.{contains_none}

pub node_cases : (a b : Option ℕ) → (a ≡ b) ⊎ (a ≡ b → ⊥)
node_cases None None = inl refl
node_cases None (Some y) = inr (λ e. cc)
node_cases (Some x) None = inr (λ e. cc)
node_cases (Some x) (Some y) = ⊎_elim {C = (Some x ≡ Some y) ⊎ (Some x ≡ Some y → ⊥)} (λ k. inl (ap Some k)) (λ ne. inr (λ e. ne (some_same x y e))) (cases_eq x y)
  where
    some_same : (a b : ℕ) → Some a ≡ Some b → a ≡ b
    some_same a b e = cc

pub bool_cases : (b : Bool) → (b ≡ false) ⊎ (b ≡ true)
bool_cases false = inl refl
bool_cases true = inr refl

pub true_false : {X : Type 0} (b : Bool) → b ≡ true → b ≡ false → X
true_false b t f = absurd (let e : true ≡ false = sym t ∙ f in cc)

pub edge_known : (t : Task) (cs : List Constraint) (c : Constraint) → IsEdge t cs c → IsKnown cs c
edge_known t cs c h = ⊎_elim {C = IsKnown cs c} (λ k. inl k) (λ z. inr (z.0, z.1)) h

-- a node that was looked at stays as it is
abbrev pub KeepsDone : (Option ℕ → Reached) → (Option ℕ → Reached) → Type 0
KeepsDone d d' = (n : Option ℕ) → (d n).done ≡ true → ((d' n).gain ≡ (d n).gain) × ((d' n).rank ≡ (d n).rank) × ((d' n).done ≡ true)

pub linked_same : (t : Task) (v : Option ℕ → ℕ) (cs : List Constraint) (d d' : Option ℕ → Reached) (u : Option ℕ) (r : Reached) → KeepsDone d d' → IsLinked t v cs d u r → IsLinked t v cs d' u r
linked_same t v cs d d' u r keeps x =
    let k = keeps (near_of t.direction r.cause) x.near in let g = k.0 in let n = k.1 in let xt = x.tight in let xr = x.rank in record {
      edge = x.edge;
      far = x.far;
      tight = omega (arith, g, xt);
      rank = omega (arith, n, xr);
      near = k.2;
    }

module _ (t : Task) (v : Option ℕ → ℕ) (cs : List Constraint) where
  -- the first node
  pub begins : (s n : Search) → 0 < t.gain → ((u : Option ℕ) → found_at s.draft u ≡ None) → s.queue ≡ [] → IsPut t v (far_of t.direction t.added) t.added t.gain 1 s n → Searches t v cs n
  begins s n more none empty put =
      let start = far_of t.direction t.added in
      let d = reached_at n.draft in
      let first : Reached = record { gain = t.gain; value = put.value; rank = 1; cause = t.added; done = false } in
      let here : d start ≡ first = ap reached_or put.at in
      let there : (u : Option ℕ) → (u ≡ start → ⊥) → d u ≡ unreached = λ u ne. ap reached_or (put.other u ne ∙ none u) in
      let undone : (u : Option ℕ) → (d u).done ≡ false = λ u. ⊎_elim {C = (d u).done ≡ false} (λ e. ap (λ (r : Reached). r.done) (ap d e ∙ here)) (λ ne. ap (λ (r : Reached). r.done) (there u ne)) (node_cases u start) in
      let gain_here : (d start).gain ≡ t.gain = ap (λ (r : Reached). r.gain) here in
      record {
        top = t.gain;
        touched = put.touched (λ u r h. absurd (let z = none u in cc));
        grown = record {
          reached = λ u pos. ⊎_elim {C = IsReached t v cs d n.queue t.gain u (d u)}
              (λ e. subst (λ w. IsReached t v cs d n.queue t.gain w (d w)) (sym e) (subst (λ r. IsReached t v cs d n.queue t.gain start r) (sym here) (record {
                source = inl refl;
                moved = put.moved;
                waits = λ _. put.there;
                passed = λ h. absurd (cc);
                most = omega arith;
              })))
              (λ ne. let k : (d u).gain ≡ 0 = ap (λ (r : Reached). r.gain) (there u ne) in absurd (omega (arith, k, pos))) (node_cases u start);
          done = λ u h. true_false (d u).done h (undone u);
          stops = λ u h ne. there u ne;
          queue = λ g u h. ⊎_elim {C = IsQueued d t.gain g u}
              (λ e. let gs : g ≡ t.gain = ap (λ (x : ℕ × Option ℕ). x.0) e in let us : u ≡ start = ap (λ (x : ℕ × Option ℕ). x.1) e in let k : (d u).gain ≡ t.gain = ap (λ (r : Reached). r.gain) (ap d us ∙ here) in
              record { positive = omega (arith, gs, more); below = omega (arith, gs); within = omega (arith, gs, k) })
              (λ k. absurd (contains_none (g, u) (subst (λ xs. Contains xs (g, u)) empty k))) (put.only (g, u) h);
          first = record { gain = gain_here; rank = let k : (d start).rank ≡ 1 = ap (λ (r : Reached). r.rank) here in omega (arith, k) };
        };
        edges = λ c e h. true_false (d (near_of t.direction c)).done h (undone (near_of t.direction c));
      }

  -- a node whose constraints are looked at from now on
  pub marks : (s n : Search) (g : ℕ) (w : Option ℕ) (r : Reached) → Searches t v cs s → Contains s.queue (g, w) → reached_at s.draft w ≡ r → r.done ≡ false
      → found_at n.draft w ≡ Some (record r { done = true }) → ((u : Option ℕ) → (u ≡ w → ⊥) → found_at n.draft u ≡ found_at s.draft u) → (IsTouched s.draft → IsTouched n.draft)
      → ((x : ℕ × Option ℕ) → Contains s.queue x → (x ≡ (g, w)) ⊎ Contains n.queue x) → ((x : ℕ × Option ℕ) → Contains n.queue x → Contains s.queue x) → ((x : ℕ × Option ℕ) → Contains n.queue x → x.0 ≤ g)
      → Scans t v cs n w (record r { done = true }) (IsAt t w)
  marks s n g w r z popped at fresh at' other touch keeps only greatest =
      let d = reached_at s.draft in let d' = reached_at n.draft in
      let from : Reached = record r { done = true } in
      let here : d' w ≡ from = ap reached_or at' in
      let same : (u : Option ℕ) → (u ≡ w → ⊥) → d' u ≡ d u = λ u ne. ap reached_or (other u ne) in
      let gain_r : (d w).gain ≡ r.gain = ap (λ (x : Reached). x.gain) at in
      let gains : (u : Option ℕ) → (d' u).gain ≡ (d u).gain = λ u. ⊎_elim {C = (d' u).gain ≡ (d u).gain}
      (λ e. subst (λ k. (d' k).gain ≡ (d k).gain) (sym e) (ap (λ (x : Reached). x.gain) here ∙ sym gain_r)) (λ ne. ap (λ (x : Reached). x.gain) (same u ne)) (node_cases u w) in
      let ranks : (u : Option ℕ) → (d' u).rank ≡ (d u).rank = λ u. ⊎_elim {C = (d' u).rank ≡ (d u).rank}
      (λ e. subst (λ k. (d' k).rank ≡ (d k).rank) (sym e) (ap (λ (x : Reached). x.rank) here ∙ sym (ap (λ (x : Reached). x.rank) at))) (λ ne. ap (λ (x : Reached). x.rank) (same u ne)) (node_cases u w) in
      let dones : (u : Option ℕ) → (d u).done ≡ true → (d' u).done ≡ true = λ u h. ⊎_elim {C = (d' u).done ≡ true}
      (λ e. ap (λ k. (d' k).done) e ∙ ap (λ (x : Reached). x.done) here) (λ ne. ap (λ (x : Reached). x.done) (same u ne) ∙ h) (node_cases u w) in
      let kept : KeepsDone d d' = λ u h. (gains u, ranks u, dones u h) in
      let queued = z.grown.queue g w popped in
      let positive = queued.positive in let below = queued.below in let within = queued.within in
      let pos_w : 0 < (d w).gain = omega (arith, positive, within) in
      let undone : (d w).done ≡ false = ap (λ (x : Reached). x.done) at ∙ fresh in
      let old = z.grown.reached w pos_w in
      let most : (d w).gain ≤ g = ⊎_elim {C = (d w).gain ≤ g} (λ e. let k : (d w).gain ≡ g = ap (λ (x : ℕ × Option ℕ). x.0) e in omega (arith, k)) (λ h. greatest ((d w).gain, w) h) (keeps ((d w).gain, w) (old.waits undone)) in
      let exact : g ≡ r.gain = omega (arith, most, within, gain_r) in
      record {
        at = here;
        done = refl;
        touched = touch z.touched;
        grown = record {
          reached = λ u pos. ⊎_elim {C = IsReached t v cs d' n.queue r.gain u (d' u)}
              (λ e. subst (λ k. IsReached t v cs d' n.queue r.gain k (d' k)) (sym e) (subst (λ x. IsReached t v cs d' n.queue r.gain w x) (sym here)
              (let x = subst (λ y. IsReached t v cs d s.queue z.top w y) at old in record {
                source = ⊎_elim {C = (w ≡ far_of t.direction t.added) ⊎ IsLinked t v cs d' w from} (λ k. inl k)
                    (λ k. let y = linked_same t v cs d d' w r kept k in inr (record { edge = y.edge; far = y.far; tight = y.tight; rank = y.rank; near = y.near })) x.source;
                moved = x.moved;
                waits = λ h. absurd (cc);
                passed = λ _. omega arith;
                most = x.most;
              })))
              (λ ne. let x = z.grown.reached u (let k = gains u in omega (arith, pos, k)) in subst (λ y. IsReached t v cs d' n.queue r.gain u y) (sym (same u ne)) (record {
                source = ⊎_elim {C = (u ≡ far_of t.direction t.added) ⊎ IsLinked t v cs d' u (d u)} (λ k. inl k) (λ k. inr (linked_same t v cs d d' u (d u) kept k)) x.source;
                moved = x.moved;
                waits = λ h. ⊎_elim {C = Contains n.queue ((d u).gain, u)} (λ e. absurd (ne (ap (λ (y : ℕ × Option ℕ). y.1) e))) (λ k. k) (keeps ((d u).gain, u) (x.waits h));
                passed = λ h. let y = x.passed h in omega (arith, y, below, exact);
                most = x.most;
              })) (node_cases u w);
          done = λ u h. ⊎_elim {C = 0 < (d' u).gain} (λ e. let k = gains u in let m : (d u).gain ≡ (d w).gain = ap (λ y. (d y).gain) e in omega (arith, k, m, pos_w))
              (λ ne. let k = gains u in let m = z.grown.done u (sym (ap (λ (x : Reached). x.done) (same u ne)) ∙ h) in omega (arith, k, m)) (node_cases u w);
          stops = λ u h ne. ⊎_elim {C = d' u ≡ unreached}
              (λ e. absurd (let k : (d u).gain ≡ 0 = ap (λ (x : Reached). x.gain) (z.grown.stops u h ne) in let m : (d u).gain ≡ (d w).gain = ap (λ y. (d y).gain) e in omega (arith, k, m, pos_w)))
              (λ apart. same u apart ∙ z.grown.stops u h ne) (node_cases u w);
          queue = λ g' u h. let x = z.grown.queue g' u (only (g', u) h) in let p = x.positive in let i = x.within in let k = gains u in let m = greatest (g', u) h in
              record { positive = p; below = omega (arith, m, exact); within = omega (arith, i, k) };
          first = let x = z.grown.first in let xg = x.gain in let xr = x.rank in let a = gains (far_of t.direction t.added) in let b = ranks (far_of t.direction t.added) in record { gain = omega (arith, xg, a); rank = omega (arith, xr, b) };
        };
        edges = λ c e h. ⊎_elim {C = IsAt t w c ⊎ IsRelaxed t v d' c} (λ k. inl k)
            (λ ne. ⊎_elim {C = IsAt t w c ⊎ IsRelaxed t v d' c} (λ k. absurd k)
            (λ k. let a = gains (near_of t.direction c) in let b = gains (far_of t.direction c) in inr (omega (arith, k, a, b)))
            (z.edges c e (sym (ap (λ (x : Reached). x.done) (same (near_of t.direction c) ne)) ∙ h))) (node_cases (near_of t.direction c) w);
      }

  -- other constraints to do
  pub retodo : (s : Search) (w : Option ℕ) (from : Reached) (todo todo' : Constraint → Type 0) → Scans t v cs s w from todo → ((c : Constraint) → IsEdge t cs c → todo c → todo' c) → Scans t v cs s w from todo'
  retodo s w from todo todo' z to = record {
    at = z.at;
    done = z.done;
    touched = z.touched;
    grown = z.grown;
    edges = λ c e h. ⊎_elim {C = todo' c ⊎ IsRelaxed t v (reached_at s.draft) c} (λ k. inl (to c e k)) (λ k. inr k) (z.edges c e h);
  }

  -- a constraint that moves nothing
  pub passes : (s : Search) (w : Option ℕ) (from : Reached) (todo todo' : Constraint → Type 0) (c : Constraint) → Scans t v cs s w from todo → ((x : Constraint) → IsEdge t cs x → todo x → (x ≡ c) ⊎ todo' x)
      → near_of t.direction c ≡ w → from.gain + low_of v c ≤ (reached_at s.draft (far_of t.direction c)).gain + high_of v c → Scans t v cs s w from todo'
  passes s w from todo todo' c z rest near fine =
      let d = reached_at s.draft in
      let gain_near : (d (near_of t.direction c)).gain ≡ from.gain = ap (λ (r : Reached). r.gain) (ap d near ∙ z.at) in record {
        at = z.at;
        done = z.done;
        touched = z.touched;
        grown = z.grown;
        edges = λ x e h. ⊎_elim {C = todo' x ⊎ IsRelaxed t v d x}
            (λ k. ⊎_elim {C = todo' x ⊎ IsRelaxed t v d x} (λ is. inr (subst (λ y. IsRelaxed t v d y) (sym is) (omega (arith, fine, gain_near)))) (λ y. inl y) (rest x e k)) (λ k. inr k) (z.edges x e h);
      }

  -- a constraint that moves its far node
  pub pushes : (s n : Search) (w : Option ℕ) (from : Reached) (todo todo' : Constraint → Type 0) (c : Constraint) → Scans t v cs s w from todo → ((x : Constraint) → IsEdge t cs x → todo x → (x ≡ c) ⊎ todo' x)
      → IsEdge t cs c → near_of t.direction c ≡ w → low_of v c ≤ high_of v c → IsPushed t v c from s n → Scans t v cs n w from todo' × SameDone s n
  pushes s n w from todo todo' c z rest edge near old p =
      let d = reached_at s.draft in let d' = reached_at n.draft in let far = far_of t.direction c in let start = far_of t.direction t.added in
      let new : Reached = record { gain = p.gain; value = p.put.value; rank = from.rank + 1; cause = c; done = false } in
      let here : d' far ≡ new = ap reached_or p.put.at in
      let here_gain : (d' far).gain ≡ p.gain = ap (λ (r : Reached). r.gain) here in
      let same : (u : Option ℕ) → (u ≡ far → ⊥) → d' u ≡ d u = λ u ne. ap reached_or (p.put.other u ne) in
      let near_is : d (near_of t.direction c) ≡ from = ap d near ∙ z.at in
      let gain_near : (d (near_of t.direction c)).gain ≡ from.gain = ap (λ (r : Reached). r.gain) near_is in
      let gain_node : (d w).gain ≡ from.gain = ap (λ (r : Reached). r.gain) z.at in
      let done_node : (d w).done ≡ true = ap (λ (r : Reached). r.done) z.at ∙ z.done in
      let done_near : (d (near_of t.direction c)).done ≡ true = ap (λ (r : Reached). r.done) near_is ∙ z.done in
      let gain_is = p.gain_is in let more = p.more in
      let small : p.gain ≤ from.gain = omega (arith, gain_is, old) in
      let most : from.gain ≤ t.gain = let x = (z.grown.reached w (z.grown.done w done_node)).most in omega (arith, x, gain_node) in
      let undone : (d far).done ≡ false = ⊎_elim {C = (d far).done ≡ false} (λ k. k) (λ k. absurd (let x = (z.grown.reached far (z.grown.done far k)).passed k in omega (arith, x, more, small))) (bool_cases (d far).done) in
      let done_apart : (u : Option ℕ) → (d u).done ≡ true → u ≡ far → ⊥ = λ u h e. true_false (d u).done h (ap (λ y. (d y).done) e ∙ undone) in
      let start_apart : start ≡ far → ⊥ = λ e. let k : (d start).gain ≡ (d far).gain = ap (λ y. (d y).gain) e in let g = z.grown.first.gain in absurd (omega (arith, k, g, more, small, most)) in
      let kept : KeepsDone d d' = λ u h. let e = same u (done_apart u h) in (ap (λ (r : Reached). r.gain) e, ap (λ (r : Reached). r.rank) e, ap (λ (r : Reached). r.done) e ∙ h) in
      let back : (u : Option ℕ) → (d' u).done ≡ true → (u ≡ far → ⊥) × ((d u).done ≡ true) = λ u h.
      let apart : u ≡ far → ⊥ = λ e. true_false (d' u).done h (ap (λ y. (d' y).done) e ∙ ap (λ (r : Reached). r.done) here) in (apart, sym (ap (λ (r : Reached). r.done) (same u apart)) ∙ h) in
      let ups : (u : Option ℕ) → (d u).gain ≤ (d' u).gain = λ u. ⊎_elim {C = (d u).gain ≤ (d' u).gain}
      (λ e. subst (λ k. (d k).gain ≤ (d' k).gain) (sym e) (omega (arith, here_gain, more))) (λ ne. let k : (d' u).gain ≡ (d u).gain = ap (λ (r : Reached). r.gain) (same u ne) in omega (arith, k)) (node_cases u far) in
      let near_kept = kept (near_of t.direction c) done_near in let near_gain = near_kept.0 in let near_rank = near_kept.1 in
      let rank_near : (d (near_of t.direction c)).rank ≡ from.rank = ap (λ (r : Reached). r.rank) near_is in (
        record {
          at = same w (done_apart w done_node) ∙ z.at;
          done = z.done;
          touched = p.put.touched z.touched;
          grown = record {
            reached = λ u pos. ⊎_elim {C = IsReached t v cs d' n.queue from.gain u (d' u)}
                (λ e. subst (λ k. IsReached t v cs d' n.queue from.gain k (d' k)) (sym e) (subst (λ x. IsReached t v cs d' n.queue from.gain far x) (sym here) (record {
                  source = inr (record { edge = edge; far = refl; tight = omega (arith, gain_is, near_gain, gain_near); rank = omega (arith, near_rank, rank_near); near = near_kept.2 });
                  moved = p.put.moved;
                  waits = λ _. p.put.there;
                  passed = λ h. absurd (cc);
                  most = omega (arith, small, most);
                })))
                (λ ne. let e = same u ne in let x = z.grown.reached u (let k : (d' u).gain ≡ (d u).gain = ap (λ (r : Reached). r.gain) e in omega (arith, pos, k)) in subst (λ y. IsReached t v cs d' n.queue from.gain u y) (sym e) (record {
                  source = ⊎_elim {C = (u ≡ start) ⊎ IsLinked t v cs d' u (d u)} (λ k. inl k) (λ k. inr (linked_same t v cs d d' u (d u) kept k)) x.source;
                  moved = x.moved;
                  waits = λ h. p.put.keeps ((d u).gain, u) (x.waits h);
                  passed = x.passed;
                  most = x.most;
                })) (node_cases u far);
            done = λ u h. let b = back u h in let k = z.grown.done u b.1 in let m = ups u in omega (arith, k, m);
            stops = λ u h ne. ⊎_elim {C = d' u ≡ unreached} (λ e. absurd (p.free (subst (λ y. IsStop t y) e h))) (λ apart. same u apart ∙ z.grown.stops u h ne) (node_cases u far);
            queue = λ g u h. ⊎_elim {C = IsQueued d' from.gain g u}
                (λ e. let gs : g ≡ p.gain = ap (λ (x : ℕ × Option ℕ). x.0) e in let us : u ≡ far = ap (λ (x : ℕ × Option ℕ). x.1) e in let k : (d' u).gain ≡ p.gain = ap (λ y. (d' y).gain) us ∙ here_gain in
                record { positive = omega (arith, gs, more); below = omega (arith, gs, small); within = omega (arith, gs, k) })
                (λ k. let x = z.grown.queue g u k in let a = x.positive in let b = x.below in let i = x.within in let m = ups u in record { positive = a; below = b; within = omega (arith, i, m) }) (p.put.only (g, u) h);
            first = subst (λ r. IsFirst t r) (sym (same start start_apart)) z.grown.first;
          };
          edges = λ x e h. let b = back (near_of t.direction x) h in
              let g : (d' (near_of t.direction x)).gain ≡ (d (near_of t.direction x)).gain = ap (λ (r : Reached). r.gain) (same (near_of t.direction x) b.0) in let up = ups (far_of t.direction x) in
              ⊎_elim {C = todo' x ⊎ IsRelaxed t v d' x}
              (λ k. ⊎_elim {C = todo' x ⊎ IsRelaxed t v d' x} (λ is. inr (subst (λ y. IsRelaxed t v d' y) (sym is) (omega (arith, gain_is, near_gain, gain_near, here_gain)))) (λ y. inl y) (rest x e k))
              (λ k. inr (omega (arith, k, g, up))) (z.edges x e b.1);
        },
        λ u. ⊎_elim {C = (d' u).done ≡ (d u).done} (λ e. ap (λ y. (d' y).done) e ∙ (ap (λ (r : Reached). r.done) here ∙ (sym undone ∙ ap (λ y. (d y).done) (sym e)))) (λ ne. ap (λ (r : Reached). r.done) (same u ne)) (node_cases u far),
      )

  -- a constraint at which the search stops
  pub stopped : (s : Search) (w : Option ℕ) (from : Reached) (todo : Constraint → Type 0) (c : Constraint) → Scans t v cs s w from todo → IsEdge t cs c → near_of t.direction c ≡ w
      → IsStop t (far_of t.direction c) → (reached_at s.draft (far_of t.direction c)).gain + high_of v c < from.gain + low_of v c → Stops t v cs s c
  stopped s w from todo c z edge near stop over =
      let d = reached_at s.draft in
      let near_is : d (near_of t.direction c) ≡ from = ap d near ∙ z.at in
      let gain_near : (d (near_of t.direction c)).gain ≡ from.gain = ap (λ (r : Reached). r.gain) near_is in record {
        top = from.gain;
        grown = z.grown;
        edge = edge;
        near = ap (λ (r : Reached). r.done) near_is ∙ z.done;
        stop = stop;
        over = omega (arith, over, gain_near);
      }

  -- at the end no constraint moves its far node further
  pub relaxed : (s : Search) → Searches t v cs s → IsFeasible v cs → s.queue ≡ [] → (c : Constraint) → IsEdge t cs c → IsRelaxed t v (reached_at s.draft) c
  relaxed s z feasible empty c edge =
      let d = reached_at s.draft in let near = near_of t.direction c in
      ⊎_elim {C = IsRelaxed t v d c}
      (λ e. let k = feasible c (edge_known t cs c edge) in omega (arith, k, e))
      (λ ne. let pos : 0 < (d near).gain = omega (arith, ne) in let x = z.grown.reached near pos in
      ⊎_elim {C = IsRelaxed t v d c}
      (λ h. absurd (contains_none ((d near).gain, near) (subst (λ xs. Contains xs ((d near).gain, near)) empty (x.waits h))))
      (λ h. ⊎_elim {C = IsRelaxed t v d c} (λ k. absurd k) (λ k. k) (z.edges c edge h)) (bool_cases (d near).done)) (cases_eq (d near).gain 0)
