use Rattle.lego_grammar.proofs.Refusals.{one_unexpected, one_too_deep}
use Rattle.lego_grammar.proofs.laws.refusals_are_one.Goals as goal

pub returns : goal.returns
returns c = (one_unexpected, one_too_deep)
