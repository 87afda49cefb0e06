use Rattle.std.proofs.Common.{sym}
use Rattle.lego_grammar.proofs.Unique.{contexts_agree}
use Rattle.lego_grammar.proofs.laws.kinds_are_one.Goals as goal

pub returns : goal.returns
returns c = λ names names' ts us k l r q e. contexts_agree r q (sym e)
