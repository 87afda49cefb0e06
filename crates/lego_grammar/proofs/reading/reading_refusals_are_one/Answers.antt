use Rattle.lego_grammar.proofs.ReadingRefusals.{one_reading_refusal}
use Rattle.lego_grammar.proofs.reading.reading_refusals_are_one.Goals as goal

pub returns : goal.returns
returns c = one_reading_refusal
