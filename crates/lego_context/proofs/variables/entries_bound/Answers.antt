use Rattle.std.proofs.Common.{◌∙◌, arith}
use Rattle.lego_context.proofs.VariableLemmas.{bound_more}
use Rattle.lego_context.proofs.variables.entries_bound.Goals as goal

pub loop-entry-preserved : goal.loop-entry-preserved
loop-entry-preserved c =
    c.max-bound.ensures ∙ bound_more c.args.entries.now c.loop-entry.entry-index c.entry-item.result c.entry_bound.result c.loop-entry.bound (omega arith) c.entry-item.is c.entry_bound.ensures c.loop-entry.invariant
