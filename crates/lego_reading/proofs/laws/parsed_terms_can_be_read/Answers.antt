use Rattle.lego_reading.proofs.ReadableLemmas.{parsed_terms}
use Rattle.lego_reading.proofs.laws.parsed_terms_can_be_read.Goals as goal

pub returns : goal.returns
returns c = parsed_terms
