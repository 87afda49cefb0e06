use Rattle.std.proofs.Common.{◌+◌, ◌-◌, ◌*◌}
use Rattle.lego_reduce.proofs.normal_form.+normal.Given as goal

abbrev pub decreases-part_within : goal.decreases-part_within
decreases-part_within l = 8 * (2002 - l.nest) + 7

abbrev pub decreases-normal_within : goal.decreases-normal_within
decreases-normal_within l = 8 * (2002 - l.nest) + 6

abbrev pub decreases-parts_from : goal.decreases-parts_from
decreases-parts_from l = 8 * (2002 - l.nest) + (5 - l.number)
