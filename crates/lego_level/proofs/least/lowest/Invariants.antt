use Rattle.lego_level.specs.private.Measures.{measure}
use Rattle.lego_level.specs.private.Potentials.{value_at}
use Rattle.lego_level.specs.private.Searches.{Searches}
use Rattle.lego_level.proofs.least.lowest.Given as goal

abbrev pub invariant-steps : goal.invariant-steps
invariant-steps l = Searches l.task (value_at l.potential) l.edges l.search

abbrev pub decreases-steps : goal.decreases-steps
decreases-steps l = measure l.task l.edges l.search
