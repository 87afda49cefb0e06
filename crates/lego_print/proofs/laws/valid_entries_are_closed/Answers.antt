use Rattle.lego_print.proofs.ClosedEntries.{valid_closed}
use Rattle.lego_print.proofs.laws.valid_entries_are_closed.Goals as goal

pub returns : goal.returns
returns c = valid_closed
