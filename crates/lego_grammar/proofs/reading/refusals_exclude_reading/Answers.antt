use Rattle.lego_grammar.proofs.reading.refusals_exclude_reading.Goals as goal
use Rattle.lego_grammar.proofs.ReadingRefusals.{refusals_exclude_reading}

pub returns : goal.returns
returns c = refusals_exclude_reading
