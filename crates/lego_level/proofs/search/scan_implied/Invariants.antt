use Rattle.std.proofs.Common.{◌+◌, ◌≤◌, None, length}
use Rattle.lego_level.specs.private.Potentials.{value_at}
use Rattle.lego_level.specs.private.Searches.{Scans, SameDone}
use Rattle.lego_level.proofs.StepLemmas.{implied_from}
use Rattle.lego_level.proofs.search.scan_implied.Given as goal

abbrev pub invariant-loop-variable : goal.invariant-loop-variable
invariant-loop-variable l = record {
  scans : Scans l.task (value_at l.potential) l.edges l.search None l.from (implied_from l.task l.variable);
  done : SameDone l.fn.search l.search;
  waiting : length l.search.queue ≤ length l.fn.search.queue + l.variable;
}
