use Rattle.std.proofs.Common.{◌≡◌, ◌-◌, length, drop}
use Rattle.lego_reduce.specs.private.Frames.{plug}
use Rattle.lego_reduce.proofs.frames.rebuilt.Given as goal

abbrev pub invariant-loop-index : goal.invariant-loop-index
invariant-loop-index l = l.made ≡ plug (drop (length l.frames - l.index) l.frames) l.term
