use Rattle.std.proofs.Common.{◌+◌}
use Rattle.lego_level.specs.private.Measures.{measure}
use Rattle.lego_level.specs.private.Potentials.{value_at}
use Rattle.lego_level.specs.private.Searches.{Searches}
use Rattle.lego_level.proofs.mend.take_turns.Given as goal

abbrev pub invariant-turns : goal.invariant-turns
invariant-turns l = record {
  up : Searches l.raise (value_at l.potential) l.edges l.up;
  down : Searches l.lower (value_at l.potential) l.edges l.down;
}

abbrev pub decreases-turns : goal.decreases-turns
decreases-turns l = measure l.raise l.edges l.up + measure l.lower l.edges l.down
