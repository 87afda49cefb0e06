use Rattle.std.proofs.Common.{◌∷◌, reverse}
use Rattle.lego_level.specs.private.Potentials.{value_at}
use Rattle.lego_level.specs.private.Searches.{reached_at}
use Rattle.lego_level.proofs.CycleLemmas.{WalkedBack}
use Rattle.lego_level.proofs.cycle.walk_back.Given as goal

abbrev pub invariant-causes : goal.invariant-causes
invariant-causes l = WalkedBack l.task.added (value_at l.fn.potential) (l.task.added ∷ l.fn.edges) (reached_at l.draft) l.at (reverse l.chain.items)

abbrev pub decreases-causes : goal.decreases-causes
decreases-causes l = (reached_at l.draft l.at).rank
