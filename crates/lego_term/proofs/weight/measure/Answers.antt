use Rattle.lego_term.proofs.CountedLemmas.{measured}
use Rattle.lego_term.proofs.weight.measure.Goals as goal

pub returns : goal.returns
returns c = measured c.args.t.now c.new-scope.result.items c.measure_within.result c.new-scope.ensures.items c.measure_within.ensures.counted
