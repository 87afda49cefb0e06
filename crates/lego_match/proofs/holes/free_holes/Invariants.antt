use Rattle.std.proofs.Common.{◌-◌, length, drop}
use Rattle.lego_match.proofs.HoleLemmas.{HasHoles}
use Rattle.lego_match.proofs.holes.free_holes.Given as goal

abbrev pub invariant-loop-index : goal.invariant-loop-index
invariant-loop-index l = HasHoles (drop (length l.free - l.index) l.free) l.holes
