use Rattle.std.proofs.Common.{subst}
use Rattle.lego_level.specs.Limits.{MAX_VALUE}
use Rattle.lego_level.specs.Graphs.{CanBeSatisfiedWithin, Forces}
use Rattle.lego_level.specs.private.Outcomes.{IsSettled}
use Rattle.lego_level.specs.private.Searches.{reached_at}
use Rattle.lego_level.proofs.MeaningLemmas.{zero_below_top, narrow, laid_out, laid_out_within, forces_over}
use Rattle.lego_level.proofs.solver.Solver.settle.Goals as goal

pub overflow_sub-self-inside : goal.overflow_sub-self-inside
overflow_sub-self-inside c = zero_below_top c.self.inside.potential c.self.inside.edges c.self.invariant.0 c.self.invariant.1

pub returns-then-self-le-MAX_VALUE-clause-settled : goal.returns-then-self-le-MAX_VALUE-clause-settled
returns-then-self-le-MAX_VALUE-clause-settled c =
    subst CanBeSatisfiedWithin c.self.view_is (narrow c.self.inside.potential c.count-count.result c.self.inside.edges c.self.invariant.0 c.self.invariant.1 c.count-count.ensures c.if-self-le-MAX_VALUE.true)

pub invariant_of-self : goal.invariant_of-self
invariant_of-self c =
    let s = subst (IsSettled c.count-count.result MAX_VALUE (reached_at c.in_ok-draft.draft)) c.in-Within.is c.in_ok-potential.ensures in
    (laid_out c.self.inside.edges c.count-count.result MAX_VALUE (reached_at c.in_ok-draft.draft) c.in-Within.potential c.in_ok-draft.ensures c.count-count.ensures s, s.3)

pub returns-in-Within-clause-settled : goal.returns-in-Within-clause-settled
returns-in-Within-clause-settled c =
    let s = subst (IsSettled c.count-count.result MAX_VALUE (reached_at c.in_ok-draft.draft)) c.in-Within.is c.in_ok-potential.ensures in
    subst CanBeSatisfiedWithin c.self.view_is (laid_out_within c.self.inside.edges c.count-count.result (reached_at c.in_ok-draft.draft) c.in-Within.potential c.in_ok-draft.ensures c.count-count.ensures s)

pub returns-clause-settled : goal.returns-clause-settled
returns-clause-settled c =
    let s = subst (IsSettled c.count-count.result MAX_VALUE (reached_at c.in_ok-draft.draft)) c.in-Over.is c.in_ok-potential.ensures in
    subst (λ z. Forces z c.in-Over.constraint c.in-Over.needed) c.self.view_is (forces_over c.self.inside.edges c.count-count.result (reached_at c.in_ok-draft.draft) c.in-Over.constraint c.in-Over.needed c.in_ok-draft.ensures c.count-count.ensures s)
