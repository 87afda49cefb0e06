use Rattle.lego_grammar.proofs.Unique.{one_nesting}
use Rattle.lego_grammar.proofs.laws.nestings_are_one.Goals as goal

pub returns : goal.returns
returns c = λ names names' ts us k l r q e. one_nesting names names' r q e
