use Rattle.lego_grammar.proofs.Beginnings.{decided}
use Rattle.lego_grammar.proofs.laws.beginnings_are_decided.Goals as goal

pub returns : goal.returns
returns c = decided
