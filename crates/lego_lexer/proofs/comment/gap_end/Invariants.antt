use Rattle.std.proofs.Common.{ℕ, ◌-◌, ◌≤◌, length}
use Rattle.std.specs.Prelude.{slice_range}
use Rattle.lego_lexer.specs.Bytes.{Gap}
use Rattle.lego_lexer.proofs.comment.gap_end.Given as goal

abbrev pub decreases-loop-at : goal.decreases-loop-at
decreases-loop-at l = length l.bytes - l.at

-- a gap from `at` on goes on a gap
abbrev pub invariant-loop-at : goal.invariant-loop-at
invariant-loop-at l = record {
  passed : l.fn.from ≤ l.at;
  within : l.at ≤ length l.bytes;
  gap : (u : ℕ) → l.at ≤ u → u ≤ length l.bytes → Gap (slice_range l.bytes l.at u) → Gap (slice_range l.bytes l.fn.from u);
}
