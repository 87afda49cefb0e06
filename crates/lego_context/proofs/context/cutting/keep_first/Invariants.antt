use Rattle.std.proofs.Common.{◌≡◌, ◌≤◌, length, take}
use Rattle.lego_context.specs.private.Kept.{IsKept}
use Rattle.lego_context.proofs.context.cutting.keep_first.Given as goal

abbrev pub invariant-loop-signature : goal.invariant-loop-signature
invariant-loop-signature l = record {
  front : l.signature ≡ take (length l.signature) l.fn.signature;
  within : l.count ≤ length l.signature;
  kept : IsKept l.signature l.names.entries l.graph l.least;
}

abbrev pub decreases-loop-signature : goal.decreases-loop-signature
decreases-loop-signature l = length l.signature
