use Rattle.std.proofs.Common.{arith}
use Rattle.lego_term.proofs.BoundLemmas.{none_listed}
use Rattle.lego_term.proofs.constants.least_of.Goals as goal

pub returns : goal.returns
returns c = none_listed c.args.numbers.now c.loop-number.least (λ j h. c.loop-number.invariant j (omega arith))
