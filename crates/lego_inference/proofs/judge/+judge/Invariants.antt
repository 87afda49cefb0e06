use Rattle.std.proofs.Common.{◌+◌, ◌*◌, max}
use Rattle.lego_term.specs.Trees.{instantiate}
use Rattle.lego_term.specs.Weight.{height}
use Rattle.lego_inference.proofs.judge.+judge.Given as goal

abbrev pub decreases-judge : goal.decreases-judge
decreases-judge l = 4 * height l.m.now

abbrev pub decreases-type_at : goal.decreases-type_at
decreases-type_at l = 4 * height l.a.now + 1

abbrev pub decreases-checked : goal.decreases-checked
decreases-checked l = 4 * height l.m.now + 1

abbrev pub decreases-projected : goal.decreases-projected
decreases-projected l = 4 * height l.of.now + 1

abbrev pub decreases-type_under : goal.decreases-type_under
decreases-type_under l = 4 * height l.bound.now.body.now + 2

abbrev pub decreases-formed : goal.decreases-formed
decreases-formed l = 4 * max (height l.bound.now.domain.now) (height l.bound.now.body.now) + 3

abbrev pub decreases-abstraction : goal.decreases-abstraction
decreases-abstraction l = 4 * max (height l.bound.now.domain.now) (height l.bound.now.body.now) + 3

abbrev pub decreases-application : goal.decreases-application
decreases-application l = 4 * max (height l.function.now) (height l.argument.now) + 3

abbrev pub decreases-pair : goal.decreases-pair
decreases-pair l = 4 * max (max (height l.bound.now.domain.now) (height l.bound.now.body.now)) (max (height l.first.now) (height l.second.now)) + 3

abbrev pub decreases-local : goal.decreases-local
decreases-local l = 4 * max (height l.value.now) (height (instantiate l.body.now l.value.now)) + 3
