use Rattle.std.proofs.Common.{subst}
use Rattle.lego_level.specs.declared.search.Search.{Search}
use Rattle.lego_level.specs.private.Potentials.{value_at}
use Rattle.lego_level.specs.private.Searches.{IsPut}
use Rattle.lego_level.proofs.SearchLemmas.{begins}
use Rattle.lego_level.proofs.search.start.Goals as goal

pub returns : goal.returns
returns c =
    let s : Search = record { draft = c.new.result; queue = c.new-2.result; work = 0 } in
    begins c.args.task (value_at c.args.potential.now) c.args.edges.now s c.reach.new.search c.requires c.new.ensures c.new-2.ensures
    (subst (λ w. IsPut c.args.task (value_at c.args.potential.now) w c.args.task.added c.args.task.gain 1 s c.reach.new.search) c.far-node.ensures c.in_ok-reach.ensures)
