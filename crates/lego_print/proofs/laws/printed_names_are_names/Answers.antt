use Rattle.lego_print.proofs.PrintedNames.{printed_is_name}
use Rattle.lego_print.proofs.laws.printed_names_are_names.Goals as goal

pub returns : goal.returns
returns c = printed_is_name
