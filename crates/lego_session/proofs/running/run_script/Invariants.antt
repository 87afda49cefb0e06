use Rattle.std.proofs.Common.{◌≡◌, ◌-◌, []}
use Rattle.lego_session.specs.private.Progress.{IsUnderway}
use Rattle.lego_session.proofs.running.run_script.Given as goal

abbrev pub decreases-loop-count : goal.decreases-loop-count
decreases-loop-count g l = 16777216 - l.progress.pending.cutter.fed

-- the pieces so far were read, and their answers taken
abbrev pub invariant-loop-count : goal.invariant-loop-count
invariant-loop-count g l = record {
  underway : IsUnderway l.fn.options l.progress (g.S.Source.left l.fn.script) (g.S.Source.left l.script) (g.K.Sink.taken l.fn.out) (g.K.Sink.taken l.out);
  sent : l.gathered.text.items ≡ [];
  source : g.S.Source.faults l.script ≡ g.S.Source.faults l.fn.script;
  sink : g.K.Sink.faults l.out ≡ g.K.Sink.faults l.fn.out;
}
