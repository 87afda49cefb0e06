use Rattle.std.proofs.Common.{◌+◌}
use Rattle.lego_level.specs.Graphs.{HasVariablesBelow}
use Rattle.lego_bench.proofs.levels.chain.Given as goal

abbrev pub invariant-loop-turn : goal.invariant-loop-turn
invariant-loop-turn l = HasVariablesBelow (l.size + 1) l.graph
