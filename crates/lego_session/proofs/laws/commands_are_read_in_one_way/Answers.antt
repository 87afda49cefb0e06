use Rattle.lego_session.proofs.OneReadingLemmas.{commands_are_read_in_one_way}
use Rattle.lego_session.proofs.laws.commands_are_read_in_one_way.Goals as goal

pub returns : goal.returns
returns c = commands_are_read_in_one_way
