use Rattle.std.proofs.Common.{◌+◌, ◌*◌, max}
use Rattle.lego_term.specs.Trees.{depth}
use Rattle.lego_print.proofs.term.+terms.Given as goal

abbrev pub decreases-push_term : goal.decreases-push_term
decreases-push_term g l = 4 * depth l.term.now + 1

abbrev pub decreases-push_form : goal.decreases-push_form
decreases-push_form g l = 4 * depth l.term.now

abbrev pub decreases-push_application : goal.decreases-push_application
decreases-push_application g l = 4 * max (depth l.m.now) (depth l.n.now) + 3

abbrev pub decreases-push_parts : goal.decreases-push_parts
decreases-push_parts g l = 4 * max (depth l.m.now) (depth l.n.now) + 3

abbrev pub decreases-push_product : goal.decreases-push_product
decreases-push_product g l = 4 * max (depth l.a.now) (depth l.b.now) + 3

abbrev pub decreases-push_lambda : goal.decreases-push_lambda
decreases-push_lambda g l = 4 * max (depth l.a.now) (depth l.m.now) + 3

abbrev pub decreases-push_local : goal.decreases-push_local
decreases-push_local g l = 4 * max (depth l.m.now) (depth l.n.now) + 3

abbrev pub decreases-push_sigma : goal.decreases-push_sigma
decreases-push_sigma g l = 4 * max (depth l.a.now) (depth l.b.now) + 3

abbrev pub decreases-push_infix : goal.decreases-push_infix
decreases-push_infix g l = 4 * max (depth l.a.now) (depth l.b.now) + 2

abbrev pub decreases-push_binder : goal.decreases-push_binder
decreases-push_binder g l = 4 * max (depth l.a.now) (depth l.b.now) + 2

abbrev pub decreases-push_projection : goal.decreases-push_projection
decreases-push_projection g l = 4 * depth l.m.now + 3
