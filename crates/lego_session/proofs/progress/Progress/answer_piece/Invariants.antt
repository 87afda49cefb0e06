use Rattle.std.proofs.Common.{◌≡◌, ◌-◌, ◌≤◌, length, take}
use Rattle.lego_session.specs.private.Progress.{MayGoOn}
use Rattle.lego_session.proofs.ProgressLemmas.{IsSoFar}
use Rattle.lego_session.proofs.progress.Progress.answer_piece.Given as goal

abbrev pub decreases-loop-at : goal.decreases-loop-at
decreases-loop-at g l = length l.piece - l.at

-- the piece up to `at` was read and answered
abbrev pub invariant-loop-at : goal.invariant-loop-at
invariant-loop-at g l = record {
  within : l.at ≤ length l.piece;
  asked : l.self.options ≡ l.fn.self.options;
  goes_on : MayGoOn l.self;
  so_far : IsSoFar l.fn.self l.self (take l.at l.piece) l.gathered.text.items (g.K.Sink.taken l.fn.out) (g.K.Sink.taken l.out);
  kept : g.K.Sink.faults l.out ≡ g.K.Sink.faults l.fn.out;
}
