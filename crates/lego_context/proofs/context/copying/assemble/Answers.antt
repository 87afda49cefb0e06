use Rattle.lego_context.specs.Contexts.{Contents}
use Rattle.lego_context.proofs.ContextLemmas.{types_are_closed, bodies_are_closed}
use Rattle.lego_context.proofs.context.copying.assemble.Goals as goal

pub of-requires-clause-closed : goal.of-requires-clause-closed
of-requires-clause-closed c =
    let made : Contents = record { entries = c.args.entries.items; universes = c.args.universes.items; levels = c.args.levels } in
    record { types = types_are_closed made c.requires.context; bodies = bodies_are_closed made c.requires.context }
