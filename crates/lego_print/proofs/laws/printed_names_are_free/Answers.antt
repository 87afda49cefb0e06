use Rattle.lego_print.proofs.FreeNames.{printed_free}
use Rattle.lego_print.proofs.laws.printed_names_are_free.Goals as goal

pub returns : goal.returns
returns c = printed_free
