use Rattle.std.proofs.Common.{◌≡◌, ◌++◌, ◌∙◌, ap, subst, sym, arith}
use Rattle.lego_level.specs.Graphs.{CanBeSatisfiedWithin}
use Rattle.lego_context.proofs.ListLemmas.{satisfiable_more, graph_more}
use Rattle.lego_context.proofs.context.copying.graph_of.Goals as goal

pub extend-requires : goal.extend-requires
extend-requires c =
    let own : c.items.result.now ≡ c.entry-item.result.constraints = c.items.ensures in
    subst (λ cs. CanBeSatisfiedWithin (c.loop-entry.graph ++ cs)) (sym own)
    (satisfiable_more c.args.entries.now c.loop-entry.entry-index c.entry-item.result (omega arith) c.entry-item.is c.loop-entry.graph c.loop-entry.invariant c.requires)

pub loop-entry-preserved : goal.loop-entry-preserved
loop-entry-preserved c =
    let own : c.items.result.now ≡ c.entry-item.result.constraints = c.items.ensures in
    graph_more c.args.entries.now c.loop-entry.entry-index c.entry-item.result (omega arith) c.entry-item.is c.loop-entry.graph c.extend.new.graph c.loop-entry.invariant
    (c.in_ok-extend.ensures ∙ ap (λ cs. c.loop-entry.graph ++ cs) own)
