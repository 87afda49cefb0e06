use Rattle.lego_print.proofs.ReadDevelopments.{developments_read}
use Rattle.lego_print.proofs.laws.printed_developments_read_back.Goals as goal

pub returns : goal.returns
returns c = developments_read
