use Rattle.lego_match.proofs.ScopeLemmas.{loose_heads}
use Rattle.lego_match.proofs.walk.head_of.Goals as goal

pub returns-clause-bound : goal.returns-clause-bound
returns-clause-bound c = loose_heads c.args.setting.now.bodies.now c.requires.closed c.in_ok-head.field-0.steps c.args.t.now c.in_ok-head.field-0.term c.in_ok-head.ensures.0.reaches
