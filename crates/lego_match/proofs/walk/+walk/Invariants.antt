use Rattle.std.proofs.Common.{◌+◌, ◌-◌, ◌*◌}
use Rattle.lego_match.proofs.walk.+walk.Given as goal

abbrev pub decreases-walk_part : goal.decreases-walk_part
decreases-walk_part l = 8 * l.at.room + 7

abbrev pub decreases-walk : goal.decreases-walk
decreases-walk l = 8 * l.at.room + 6

abbrev pub decreases-forms : goal.decreases-forms
decreases-forms l = 8 * l.at.room + 5

abbrev pub decreases-parts_from : goal.decreases-parts_from
decreases-parts_from l = 8 * l.at.room + (4 - l.number)
