use Rattle.lego_grammar.proofs.Unique.{one_reading}
use Rattle.lego_grammar.proofs.laws.readings_are_one.Goals as goal

pub returns : goal.returns
returns c = λ names ts us k l d r q e. (one_reading names d r q e).1
