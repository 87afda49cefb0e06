-- The normalisation of a part, as a part of that of the whole.
use Rattle.std.proofs.Common.{◌≡◌, ℕ, zero, suc, ◌+◌, ◌-◌, ◌≤◌, Some, None, refl, ap, subst, ◌∙◌, arith, Err}
use Rattle.std.specs.Prelude.{option_and_then}
use Rattle.lego_term.specs.Trees.{Core, Bodies, depth}
use Rattle.lego_term.specs.Sequences.{normal_step, after}
use Rattle.lego_term.specs.Parts.{Subtree, IsTooLarge, subtree}
use Rattle.lego_term.specs.Made.{Makes}
use Rattle.lego_term.specs.declared.binder.Binder.{Binder}
use Rattle.lego_term.specs.declared.binder.Mark.{Mark}
use Rattle.lego_term.specs.declared.level.Level.{Level}
use Rattle.lego_term.specs.declared.fault.TermFault.{TermFault}
use Rattle.lego_term.specs.declared.fault.TermFault.TheVariants as term
use Rattle.lego_reduce.specs.declared.fault.ReduceFault.{ReduceFault}
use Rattle.lego_reduce.specs.declared.fault.ReduceFault.TheVariants.{Budget, TooLarge, Memory}
use Rattle.lego_reduce.specs.private.Faults.{of_term}
use Rattle.lego_reduce.specs.private.Nesting.{Arrives, Goes}
use Rattle.lego_reduce.proofs.LargeLemmas.{large_whole}
use Rattle.lego_reduce.proofs.SequenceLemmas.{after-plus, after-step}

-- what stands around a part
pub record Around (whole_of : Core → Core) : Type 0 where
  pub above : (u : Core) → suc (depth u) ≤ depth (whole_of u)
  pub inside : (u v : Core) → Subtree v u → Subtree v (whole_of u)

large_inside : (whole_of : Core → Core) → Around whole_of → (u : Core) (i j : ℕ) → IsTooLarge u i j → IsTooLarge (whole_of u) i j
large_inside whole_of around u _ _ (subtree {v} s p) = subtree (around.inside u v s) p

-- a step of the part is the next step of the whole
pub record Passes (bodies : Bodies Binder Mark Level) (whole_of : Core → Core) (Good : Core → Type 0) : Type 0 where
  pub passed : (u v : Core) → Good u → normal_step bodies u ≡ Some v → normal_step bodies (whole_of u) ≡ Some (whole_of v)
  pub kept : (u v : Core) → Good u → normal_step bodies u ≡ Some v → Good v

module _ (bodies : Bodies Binder Mark Level) where
  module _ (whole_of : Core → Core) (Good : Core → Type 0) (passes : Passes bodies whole_of Good) where
    pub after_around : (n : ℕ) (u v : Core) → Good u → after (normal_step bodies) n u ≡ Some v
        → (after (normal_step bodies) n (whole_of u) ≡ Some (whole_of v)) × Good v
    after_around zero u v good e =
        let same : u ≡ v = cc in
        (ap (λ x. Some (whole_of x)) same, subst Good same good)
    after_around (suc n) u v good e =
        elim (normal_step bodies u) as (λ o. normal_step bodies u ≡ o → option_and_then (after (normal_step bodies) n) o ≡ Some v → (after (normal_step bodies) (suc n) (whole_of u) ≡ Some (whole_of v)) × Good v) [
          | None ↦ λ p q. absurd (cc)
          | Some x ↦ λ p q.
              (let rest = after_around n x v (passes.kept u x good p) q in
              (after-step (normal_step bodies) n (whole_of u) (whole_of x) (passes.passed u x good p) ∙ rest.0, rest.1))
        ] refl e

    -- what ends the sequence of the part ends that of the whole
    pub part_fault : (p : Core) (limit nest : ℕ) (e : ReduceFault) → Around whole_of → Good p → Goes bodies p limit (nest + 1) (Err e) → Goes bodies (whole_of p) limit nest (Err e)
    part_fault p limit nest Budget around good h = (whole_of h.0, (after_around (suc limit) p h.0 good h.1).0)
    part_fault p limit nest (TooLarge i j) around good h =
        (h.0, whole_of h.1, h.2, (after_around h.0 p h.1 good h.3).0, large_inside whole_of around h.1 i j h.4)
    part_fault p limit nest Memory around good h = tt

  -- what ends the sequence later on ends the whole sequence
  pub later_fault : (t w : Core) (limit nest i : ℕ) (e : ReduceFault) → after (normal_step bodies) i t ≡ Some w → i ≤ limit → Goes bodies w (limit - i) nest (Err e)
      → Goes bodies t limit nest (Err e)
  later_fault t w limit nest i Budget there le h =
      let all : suc limit ≡ i + suc (limit - i) = omega (arith, le) in
      (h.0, ap (λ n. after (normal_step bodies) n t) all ∙ (after-plus (normal_step bodies) i (suc (limit - i)) t w there ∙ h.1))
  later_fault t w limit nest i (TooLarge l j) there le h =
      let n : ℕ = h.0 in
      let within : n ≤ limit - i = h.2 in
      (i + n, h.1, omega (arith, within, le), after-plus (normal_step bodies) i n t w there ∙ h.3, h.4)
  later_fault t w limit nest i Memory there le h = tt

  pub later : (t w v : Core) (limit nest i k : ℕ) → after (normal_step bodies) i t ≡ Some w → i ≤ limit → Arrives (normal_step bodies) w (limit - i) nest v k
      → Arrives (normal_step bodies) t limit nest v (i + k)
  later t w v limit nest i k there le h =
      let within : k ≤ limit - i = h.1 in
      (after-plus (normal_step bodies) i k t w there ∙ h.0, omega (arith, within, le), h.2)

  -- a term of the sequence that cannot be made ends it
  pub making_fault : (t w : Core) (limit nest i : ℕ) (e : TermFault) → after (normal_step bodies) i t ≡ Some w → i ≤ limit → Makes w (Err e)
      → Goes bodies t limit nest (Err (of_term e))
  making_fault t w limit nest i (term.TooLarge l j) there le h = (i, w, le, there, large_whole w l j h.0 h.1 h.2)
  making_fault t w limit nest i term.Memory there le h = tt
