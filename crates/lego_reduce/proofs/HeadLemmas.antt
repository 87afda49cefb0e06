-- Where the head machine stands in the head sequence.
use Rattle.std.proofs.Common.{◌≡◌, ℕ, suc, ◌+◌, ◌≤◌, inl, inr, nat_lt, true, false, Some, None, ap, sym, ◌∙◌, arith, Err}
use Rattle.std.proofs.lemmas.Bool.Decides.{nat_tests}
use Rattle.lego_term.specs.Trees.{Core, loose}
use Rattle.lego_term.specs.Sequences.{head_step, after, Ends}
use Rattle.lego_term.specs.BodyMap.{BodyMap, bodies_in, AreClosed}
use Rattle.lego_term.specs.declared.fault.TermFault.{TermFault}
use Rattle.lego_term.specs.declared.fault.TermFault.TheVariants as term
use Rattle.lego_reduce.specs.declared.fault.ReduceFault.{ReduceFault}
use Rattle.lego_reduce.specs.declared.fault.ReduceFault.TheVariants.{Budget, TooLarge, Memory}
use Rattle.lego_reduce.specs.private.Faults.{of_term}
use Rattle.lego_reduce.specs.private.Frames.{Rebuilt, StaysWithin, Turns}
use Rattle.lego_reduce.specs.Reduction.{Reduces}
use Rattle.lego_reduce.proofs.SequenceLemmas.{after-more}
use Rattle.lego_reduce.proofs.StepLemmas.{loose_step}

-- w is reached behind so many steps, within the limit
pub record Reached (bodies : BodyMap) (t : Core) (limit steps : ℕ) (w : Core) : Type 0 where
  pub there : after (head_step (bodies_in bodies)) steps t ≡ Some w
  pub within : steps ≤ limit
  pub bound : loose w ≤ loose t

pub reached_start : (bodies : BodyMap) (t w : Core) (limit : ℕ) → w ≡ t → Reached bodies t limit 0 w
reached_start bodies t w limit e = record {
  there = ap Some (sym e);
  within = omega arith;
  bound = (let same : loose w ≡ loose t = ap loose e in omega arith);
}

below : (a b : ℕ) → nat_lt a b ≡ true → a + 1 ≤ b
below a b e = grind (arith, nat_tests)

not_below : (a b : ℕ) → nat_lt a b ≡ false → b ≤ a
not_below a b e = grind (arith, nat_tests)

next_one : (bodies : BodyMap) (t v : Core) (steps : ℕ) → after (head_step (bodies_in bodies)) (suc steps) t ≡ Some v → after (head_step (bodies_in bodies)) (steps + 1) t ≡ Some v
next_one bodies t v steps e =
    let more : steps + 1 ≡ suc steps = omega arith in
    ap (λ n. after (head_step (bodies_in bodies)) n t) more ∙ e

pub reached_more : (bodies : BodyMap) (t u v : Core) (limit steps : ℕ) → AreClosed bodies → Reached bodies t limit steps u
    → nat_lt steps limit ≡ true → head_step (bodies_in bodies) u ≡ Some v → Reached bodies t limit (steps + 1) v
reached_more bodies t u v limit steps closed r lt e = record {
  there = next_one bodies t v steps (after-more (head_step (bodies_in bodies)) steps t u v r.there e);
  within = below steps limit lt;
  bound = omega (arith, r.bound, loose_step bodies closed u v e);
}

pub reached_fault : (bodies : BodyMap) (t u : Core) (limit steps : ℕ) (around : Core → Core) (e : ReduceFault) → AreClosed bodies → Reached bodies t limit steps u
    → Turns u (head_step (bodies_in bodies) u) (nat_lt steps limit) around (Err e) → Reduces (head_step (bodies_in bodies)) t limit (Err e)
reached_fault bodies t u limit steps around Budget closed r h =
    let le : limit ≤ steps = not_below steps limit h.0 in
    let all : steps ≡ limit = omega (arith, r.within) in
    (h.1.0, ap (λ n. after (head_step (bodies_in bodies)) (suc n) t) (sym all) ∙ after-more (head_step (bodies_in bodies)) steps t u h.1.0 r.there h.1.1)
reached_fault bodies t u limit steps around (TooLarge i j) closed r h =
    elim h [
      | inl p ↦ (steps, u, r.within, r.there, p)
      | inr p ↦ (steps + 1, p.1.0, below steps limit p.0, next_one bodies t p.1.0 steps (after-more (head_step (bodies_in bodies)) steps t u p.1.0 r.there p.1.1), p.1.2)
    ]
reached_fault bodies t u limit steps around Memory closed r h = tt

pub reached_deep : (bodies : BodyMap) (t u : Core) (limit steps : ℕ) (e : TermFault) → Reached bodies t limit steps u → StaysWithin u (Err e)
    → Reduces (head_step (bodies_in bodies)) t limit (Err (of_term e))
reached_deep bodies t u limit steps (term.TooLarge i j) r h = (steps, u, r.within, r.there, h)
reached_deep bodies t u limit steps term.Memory r h = tt

pub reached_whole : (bodies : BodyMap) (t u w : Core) (limit steps : ℕ) (e : TermFault) → Reached bodies t limit steps u → w ≡ u → Rebuilt w (Err e)
    → Reduces (head_step (bodies_in bodies)) t limit (Err (of_term e))
reached_whole bodies t u w limit steps (term.TooLarge i j) r s h = (steps, w, r.within, r.there ∙ ap Some (sym s), h)
reached_whole bodies t u w limit steps term.Memory r s h = tt

pub reached_end : (bodies : BodyMap) (t u v : Core) (limit steps : ℕ) → Reached bodies t limit steps u → head_step (bodies_in bodies) u ≡ None → v ≡ u
    → Ends (head_step (bodies_in bodies)) t steps v × (steps ≤ limit)
reached_end bodies t u v limit steps r none e =
    (record { reaches = r.there ∙ ap Some (sym e); last = ap (head_step (bodies_in bodies)) e ∙ none }, r.within)
