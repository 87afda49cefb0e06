use Rattle.std.proofs.Common.{◌+◌, ◌≤◌, length}
use Rattle.lego_level.specs.private.Potentials.{value_at}
use Rattle.lego_level.specs.private.Searches.{Scans, SameDone}
use Rattle.lego_level.proofs.StepLemmas.{listed_at}
use Rattle.lego_level.proofs.search.scan_listed.Given as goal

abbrev pub invariant-loop-constraint : goal.invariant-loop-constraint
invariant-loop-constraint l = record {
  scans : Scans l.task (value_at l.potential) l.edges l.search l.fn.node l.from (listed_at l.task l.edges l.fn.node l.constraint-index);
  done : SameDone l.fn.search l.search;
  waiting : length l.search.queue ≤ length l.fn.search.queue + l.constraint-index;
}
