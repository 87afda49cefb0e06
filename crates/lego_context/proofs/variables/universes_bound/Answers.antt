use Rattle.std.proofs.Common.{◌∙◌, arith}
use Rattle.lego_context.proofs.VariableLemmas.{universes_more}
use Rattle.lego_context.proofs.variables.universes_bound.Goals as goal

pub loop-universe-preserved : goal.loop-universe-preserved
loop-universe-preserved c =
    c.max-bound.ensures
    ∙ universes_more c.args.universes.now c.loop-universe.universe-index _ c.from.result c.loop-universe.bound (omega arith) c.from.ensures c.loop-universe.invariant
