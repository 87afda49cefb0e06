use Rattle.lego_term.proofs.ConstantLemmas.{no_variables, listed_more, all_variables}
use Rattle.lego_term.proofs.constants.variables_of.Goals as goal

pub loop-index-init : goal.loop-index-init
loop-index-init c = no_variables c.args.numbers.now c.new-variables.result c.new-variables.ensures.empty

pub loop-index-preserved : goal.loop-index-preserved
loop-index-preserved c =
    listed_more c.args.numbers.now c.loop-index.index c.loop-index.variables c.insert.new.self c.loop-index-test.true c.loop-index.invariant c.in-Ok.ensures.updates.0

pub returns : goal.returns
returns c = all_variables c.args.numbers.now c.loop-index.index c.loop-index.variables c.loop-index-test.false c.loop-index.invariant
