use Rattle.std.proofs.Common.{◌++◌, subst}
use Rattle.lego_level.specs.Refusals.{IsGraphFault}
use Rattle.lego_context.proofs.ListLemmas.{no_cycle, none_forced}
use Rattle.lego_context.proofs.context.copying.extend.Goals as goal

pub unreachable-requires : goal.unreachable-requires
unreachable-requires c = no_cycle (c.args.graph.now ++ c.args.more.now) c.in-Cycle.field-0 c.requires (subst (IsGraphFault (c.args.graph.now ++ c.args.more.now)) c.in-Cycle.is c.in-Err.ensures.refused)

pub unreachable-requires-in-LevelTooBig : goal.unreachable-requires-in-LevelTooBig
unreachable-requires-in-LevelTooBig c = none_forced (c.args.graph.now ++ c.args.more.now) c.in-LevelTooBig.constraint c.in-LevelTooBig.needed c.requires (subst (IsGraphFault (c.args.graph.now ++ c.args.more.now)) c.in-LevelTooBig.is c.in-Err.ensures.refused)
