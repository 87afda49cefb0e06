use Rattle.lego_print.proofs.ShowDevelopments.{developments_denote}
use Rattle.lego_print.proofs.laws.printed_developments_denote.Goals as goal

pub returns : goal.returns
returns c = developments_denote
