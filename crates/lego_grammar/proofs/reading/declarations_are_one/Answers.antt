use Rattle.lego_grammar.proofs.reading.declarations_are_one.Goals as goal
use Rattle.lego_grammar.proofs.ReadOnce.{one_list_of_declarations}

pub returns : goal.returns
returns c = λ names place text ds es d p q. one_list_of_declarations names d p q
