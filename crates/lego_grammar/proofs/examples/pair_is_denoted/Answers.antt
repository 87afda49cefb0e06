use Rattle.lego_grammar.proofs.DenotedTexts.{pair_is_denoted}
use Rattle.lego_grammar.proofs.examples.pair_is_denoted.Goals as goal

pub returns : goal.returns
returns c = pair_is_denoted
