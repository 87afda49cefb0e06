use Rattle.lego_match.proofs.HoleLemmas.{more_holes}
use Rattle.lego_match.proofs.holes.free_holes.Goals as goal

pub loop-index-preserved : goal.loop-index-preserved
loop-index-preserved c = more_holes c.args.free.now c.loop-index.index _ c.loop-index.holes c.insert.new.self c.loop-index-test.true c.loop-index.invariant c.in-Ok.ensures.updates.0
