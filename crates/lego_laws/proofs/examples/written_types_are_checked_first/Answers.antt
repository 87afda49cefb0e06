use Rattle.lego_laws.proofs.examples.written_types_are_checked_first.Goals as goal
use Rattle.lego_laws.proofs.lemmas.examples.WrittenFirst.{written_types_are_checked_first}

pub returns : goal.returns
returns c = written_types_are_checked_first
