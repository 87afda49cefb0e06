use Rattle.std.proofs.Common.{length, ap}
use Rattle.lego_context_tests.proofs.FrontLemmas.{can_take_back_to, taken_back_to}
use Rattle.lego_context_tests.proofs.fronts.make_and_take_back.Goals as goal

pub cut_to-requires : goal.cut_to-requires
cut_to-requires c =
    can_take_back_to c.args.context.now c.fresh_level.new.self _ c.len-entries.result (length c.universes-universes.result.now) c.levels-levels.result c.len-entries.ensures.context
    c.in-Ok.ensures.1 c.len-entries.ensures.exact (ap (λ us. length us) c.universes-universes.ensures) c.levels-levels.ensures.exact

pub returns : goal.returns
returns c =
    taken_back_to c.args.context.now c.fresh_level.new.self c.cut_to.new.self _ c.len-entries.result (length c.universes-universes.result.now) c.levels-levels.result
    c.in-Ok.ensures.1 c.len-entries.ensures.exact (ap (λ us. length us) c.universes-universes.ensures) c.levels-levels.ensures.exact c.cut_to.ensures
