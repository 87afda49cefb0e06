use Rattle.std.proofs.Common.{◌+◌, arith}
use Rattle.lego_level.proofs.IncidenceLemmas.{variables_push}
use Rattle.lego_bench.proofs.levels.chain.Goals as goal

pub loop-turn-preserved : goal.loop-turn-preserved
loop-turn-preserved c =
    variables_push (c.args.size + 1) (c.args.size + 1) (c.args.size + 1) c.loop-turn.graph c.extend.new.self c.link.result (omega arith) (omega arith) c.loop-turn.invariant c.link.ensures.low c.link.ensures.high c.in_ok-extend.ensures.added
