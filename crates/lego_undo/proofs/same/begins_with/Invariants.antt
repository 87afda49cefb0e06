use Rattle.std.proofs.Common.{◌≡◌, take}
use Rattle.lego_undo.proofs.same.begins_with.Given as goal

abbrev pub invariant-loop-at : goal.invariant-loop-at
invariant-loop-at g l = take l.at l.list ≡ take l.at l.front
