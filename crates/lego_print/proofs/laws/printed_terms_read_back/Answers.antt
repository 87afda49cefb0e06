use Rattle.lego_print.proofs.ReadTerms.{reads_back}
use Rattle.lego_print.proofs.laws.printed_terms_read_back.Goals as goal

pub returns : goal.returns
returns c = reads_back
