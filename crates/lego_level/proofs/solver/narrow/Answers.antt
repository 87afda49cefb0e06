use Rattle.std.proofs.Common.{subst}
use Rattle.lego_level.specs.declared.limits.TheConstants.{MAX_SPREAD}
use Rattle.lego_level.specs.private.Outcomes.{IsSettled}
use Rattle.lego_level.specs.private.Searches.{reached_at}
use Rattle.lego_level.proofs.MeaningLemmas.{zero_below_top, laid_out}
use Rattle.lego_level.proofs.solver.narrow.Goals as goal

pub overflow_sub-potential : goal.overflow_sub-potential
overflow_sub-potential c = zero_below_top c.args.potential.now c.args.edges.now c.requires.feasible c.requires.top

pub returns-then-is_narrow-clause-feasible : goal.returns-then-is_narrow-clause-feasible
returns-then-is_narrow-clause-feasible c =
    let s = subst (IsSettled c.count-count.result MAX_SPREAD (reached_at c.in_ok-draft.draft)) c.in-Within.is c.in_ok-least.ensures in
    laid_out c.args.edges.now c.count-count.result MAX_SPREAD (reached_at c.in_ok-draft.draft) c.in-Within.least c.in_ok-draft.ensures c.count-count.ensures s

pub returns-in-Within-clause-feasible : goal.returns-in-Within-clause-feasible
returns-in-Within-clause-feasible c =
    let s = subst (IsSettled c.count-count.result MAX_SPREAD (reached_at c.in_ok-draft.draft)) c.in-Within.is c.in_ok-least.ensures in
    laid_out c.args.edges.now c.count-count.result MAX_SPREAD (reached_at c.in_ok-draft.draft) c.in-Within.least c.in_ok-draft.ensures c.count-count.ensures s
