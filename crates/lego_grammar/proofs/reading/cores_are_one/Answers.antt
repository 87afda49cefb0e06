use Rattle.lego_grammar.proofs.reading.cores_are_one.Goals as goal
use Rattle.lego_grammar.proofs.ReadOnce.{one_core}

pub returns : goal.returns
returns c = λ es types scope s a b p q. one_core p q
