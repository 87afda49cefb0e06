use Rattle.std.proofs.Common.{◌≡◌, ◌-◌, ◌≤◌, ℕ, Bool, true, length}
use Rattle.std.specs.Prelude.{slice_range}
use Rattle.std.specs.List.{list_all}
use Rattle.lego_lexer.specs.private.Scanned.{Decides}
use Rattle.lego_lexer.proofs.scan.run_end.Given as goal

abbrev pub decreases-loop-to : goal.decreases-loop-to
decreases-loop-to g l = length l.bytes - l.to

abbrev pub invariant-loop-to : goal.invariant-loop-to
invariant-loop-to g l = record {
  after : l.fn.at ≤ l.to;
  within : l.to ≤ length l.bytes;
  all : (kind : ℕ → Bool) → Decides kind (goal.F-post g l.fn.is_of_kind) → list_all kind (slice_range l.bytes l.fn.at l.to) ≡ true;
}
