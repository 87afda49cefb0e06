use Rattle.std.proofs.Common.{◌+◌, ◌*◌}
use Rattle.lego_term.specs.Trees.{instantiate}
use Rattle.lego_term.specs.Weight.{height}
use Rattle.lego_rule_types.proofs.rule.+rule.Given as goal

abbrev pub decreases-rule : goal.decreases-rule
decreases-rule l = 4 * height l.m.now

abbrev pub decreases-head_at : goal.decreases-head_at
decreases-head_at l = 4 * height l.m.now + 1

abbrev pub decreases-projected : goal.decreases-projected
decreases-projected l = 4 * height l.of.now + 2

abbrev pub decreases-product_rule : goal.decreases-product_rule
decreases-product_rule l = 4 * height l.body.now + 3

abbrev pub decreases-abstraction : goal.decreases-abstraction
decreases-abstraction l = 4 * height l.body.now + 3

abbrev pub decreases-application : goal.decreases-application
decreases-application l = 4 * height l.function.now + 3

abbrev pub decreases-first_projection : goal.decreases-first_projection
decreases-first_projection l = 4 * height l.of.now + 3

abbrev pub decreases-second_projection : goal.decreases-second_projection
decreases-second_projection l = 4 * height l.of.now + 3

abbrev pub decreases-local : goal.decreases-local
decreases-local l = 4 * height (instantiate l.body.now l.value.now) + 3
