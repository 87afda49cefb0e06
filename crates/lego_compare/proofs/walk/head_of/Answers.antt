use Rattle.lego_compare.proofs.BoundLemmas.{loose_after}
use Rattle.lego_compare.proofs.walk.head_of.Goals as goal

pub returns-in-Ok-clause-bound : goal.returns-in-Ok-clause-bound
returns-in-Ok-clause-bound c = loose_after c.args.setting.now.bodies.now c.requires.closed c.in-Ok.reduced.steps c.args.t.now c.in-Ok.reduced.term c.in-Ok.ensures.0.reaches
