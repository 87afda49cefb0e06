use Rattle.std.proofs.Common.{rules}
use Rattle.lego_level.specs.private.Searches.{found_at}
use Rattle.lego_level.proofs.draft.Draft.found.Goals as goal

pub returns-in-None : goal.returns-in-None
unfolding found_at
returns-in-None c = search rules

pub returns-in-Some : goal.returns-in-Some
unfolding found_at
returns-in-Some c = search rules
