use Rattle.std.proofs.Common.{◌≡◌, ◌+◌, ◌-◌, ◌<◌, ◌≤◌, length, drop}
use Rattle.lego_lexer.specs.Bytes.{behind_comments}
use Rattle.lego_lexer.proofs.comment.comment_end.Given as goal

abbrev pub decreases-loop-at : goal.decreases-loop-at
decreases-loop-at l = length l.bytes - l.at

-- so many comments are open at `at`
abbrev pub invariant-loop-at : goal.invariant-loop-at
invariant-loop-at l = record {
  passed : l.fn.from ≤ l.at;
  within : l.at ≤ length l.bytes;
  some : 0 < l.depth;
  few : l.depth ≤ l.at + 1;
  same : behind_comments l.depth (drop l.at l.bytes) ≡ behind_comments 1 (drop l.fn.from l.bytes);
}
