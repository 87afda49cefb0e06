use Rattle.lego_grammar.proofs.reading.denoted_entries_are_one.Goals as goal
use Rattle.lego_grammar.proofs.ReadOnce.{one_content}

pub returns : goal.returns
returns c = λ names place text v w es fs d p q. one_content names d p q
