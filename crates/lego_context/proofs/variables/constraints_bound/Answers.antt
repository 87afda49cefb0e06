use Rattle.std.proofs.Common.{◌∙◌, arith}
use Rattle.lego_context.proofs.VariableLemmas.{pairs_more}
use Rattle.lego_context.proofs.variables.constraints_bound.Goals as goal

pub loop-constraint-preserved : goal.loop-constraint-preserved
loop-constraint-preserved c =
    c.max-bound.ensures
    ∙ pairs_more c.args.constraints.now c.loop-constraint.constraint-index _ c.level_bound.result c.level_bound-in-loop-constraint.result c.max-sides.result c.loop-constraint.bound
    (omega arith) c.level_bound.ensures c.level_bound-in-loop-constraint.ensures c.max-sides.ensures c.loop-constraint.invariant
