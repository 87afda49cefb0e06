use Rattle.lego_level.specs.private.Measures.{measure}
use Rattle.lego_level.specs.private.Potentials.{value_at}
use Rattle.lego_level.specs.private.Searches.{Searches}
use Rattle.lego_level.proofs.mend.go_down.Given as goal

abbrev pub invariant-steps : goal.invariant-steps
invariant-steps l = Searches l.lower (value_at l.potential) l.edges l.down

abbrev pub decreases-steps : goal.decreases-steps
decreases-steps l = measure l.lower l.edges l.down
