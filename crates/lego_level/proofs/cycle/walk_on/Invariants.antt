use Rattle.std.proofs.Common.{◌∷◌}
use Rattle.lego_level.specs.private.Potentials.{value_at}
use Rattle.lego_level.specs.private.Searches.{reached_at}
use Rattle.lego_level.proofs.CycleLemmas.{WalkedOn}
use Rattle.lego_level.proofs.cycle.walk_on.Given as goal

abbrev pub invariant-causes : goal.invariant-causes
invariant-causes l = WalkedOn l.task.added l.task.gain (value_at l.fn.potential) (l.task.added ∷ l.fn.edges) (reached_at l.draft) l.at l.chain.items

abbrev pub decreases-causes : goal.decreases-causes
decreases-causes l = (reached_at l.draft l.at).rank
