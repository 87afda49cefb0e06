use Rattle.lego_grammar.proofs.reading.declared_entries_are_one.Goals as goal
use Rattle.lego_grammar.proofs.ReadOnce.{one_list}

pub returns : goal.returns
returns c = λ before ds es fs p q. one_list p q
