use Rattle.std.proofs.Common.{◌≡◌, ◌<◌, ◌≤◌, ◌++◌, ◌∷◌, [], sym, ap, ◌∙◌, subst, arith}
use Rattle.lego_level.specs.Graphs.{CanBeSatisfied, IsCycle, IsKnown}
use Rattle.lego_level.specs.private.Outcomes.{IsOutcome}
use Rattle.lego_level.specs.private.Potentials.{value_at, low_of, high_of, IsFeasible}
use Rattle.lego_level.specs.private.Searches.{reached_at, moved_to}
use Rattle.lego_level.proofs.CycleLemmas.{bases_equal}
use Rattle.lego_level.proofs.MeaningLemmas.{refuses, refuses_alone, feasible_last, feasible_with}
use Rattle.lego_level.proofs.solver.Solver.insert.Goals as goal

pub returns-then-eq-clause-refused : goal.returns-then-eq-clause-refused
returns-then-eq-clause-refused c =
    let v = value_at c.narrow.new.potential in let e = c.args.added in
    let over : high_of v e < low_of v e = let a = c.in_ok-low.ensures.0 in let b = c.in_ok-low.ensures.1 in let h = c.if-low-high.false in omega (arith, a, b, h) in
    subst (λ z. IsCycle (z ++ e ∷ []) c.in_ok-alone.field-0 × (CanBeSatisfied (z ++ e ∷ []) → ⊥)) c.self.view_is
    (subst (λ z. IsCycle (c.self.inside.edges ++ e ∷ []) z × (CanBeSatisfied (c.self.inside.edges ++ e ∷ []) → ⊥)) (sym c.in_ok-alone.ensures)
    (refuses_alone v c.self.inside.edges e over (bases_equal e.low.base e.high.base c.if-eq.ensures)))

pub invariant_of-self-in_err-reserve_all-in-Mended : goal.invariant_of-self-in_err-reserve_all-in-Mended
invariant_of-self-in_err-reserve_all-in-Mended c =
    (subst (λ m. IsFeasible m c.self.inside.edges) (sym c.reserve_all.ensures.same) c.in_ok-narrow.ensures.feasible, c.reserve_all.ensures.top c.in_ok-narrow.ensures.top)

pub invariant_of-self-in_err-push-in-Mended : goal.invariant_of-self-in_err-push-in-Mended
invariant_of-self-in_err-push-in-Mended c =
    (subst (λ m. IsFeasible m c.push-in-Mended.new.self) (sym c.reserve_all.ensures.same) (subst (λ z. IsFeasible (value_at c.narrow.new.potential) z) (sym c.in_err-push-in-Mended.ensures.err) c.in_ok-narrow.ensures.feasible), c.reserve_all.ensures.top c.in_ok-narrow.ensures.top)

pub invariant_of-self-in-Mended : goal.invariant_of-self-in-Mended
invariant_of-self-in-Mended c =
    let v = value_at c.narrow.new.potential in let cs = c.self.inside.edges in let d = reached_at c.in-Mended.draft in
    let o = subst (IsOutcome v cs c.args.added) c.in-Mended.is c.in_ok-draft.ensures in
    let now : value_at c.keep.new.potential ≡ moved_to v d = c.keep.ensures.moved ∙ ap (λ m. moved_to m d) c.reserve_all.ensures.same in
    (subst (λ m. IsFeasible m c.push-in-Mended.new.self) (sym now) (feasible_last (moved_to v d) cs c.push-in-Mended.new.self c.args.added c.in_ok-push-in-Mended.ensures.ok o.0), c.keep.ensures.top (c.reserve_all.ensures.top c.in_ok-narrow.ensures.top))

pub returns-in_ok-cycle-in-Closed-clause-refused : goal.returns-in_ok-cycle-in-Closed-clause-refused
returns-in_ok-cycle-in-Closed-clause-refused c =
    let v = value_at c.narrow.new.potential in let cs = c.self.inside.edges in
    let o = subst (IsOutcome v cs c.args.added) c.in-Closed.is c.in_ok-draft.ensures in
    subst (λ z. IsCycle (z ++ c.args.added ∷ []) c.in_ok-cycle-in-Closed.cycle × (CanBeSatisfied (z ++ c.args.added ∷ []) → ⊥)) c.self.view_is
    (refuses cs c.args.added c.in-Closed.field-0.task.added.low.base c.in_ok-cycle-in-Closed.cycle c.in_ok-cycle-in-Closed.ensures.closed
    (λ x h. subst (λ a. IsKnown (a ∷ cs) x) o.0 (c.in_ok-cycle-in-Closed.ensures.known x h)))

pub invariant_of-self-then-low-high : goal.invariant_of-self-then-low-high
invariant_of-self-then-low-high c =
    let v = value_at c.narrow.new.potential in let e = c.args.added in let cs = c.self.inside.edges in
    let holds : low_of v e ≤ high_of v e = let a = c.in_ok-low.ensures.0 in let b = c.in_ok-low.ensures.1 in let h = c.if-low-high.true in omega (arith, a, b, h) in
    (feasible_last v cs c.push.new.self e c.in_ok-push.ensures.ok (feasible_with v cs e c.in_ok-narrow.ensures.feasible holds), c.in_ok-narrow.ensures.top)
