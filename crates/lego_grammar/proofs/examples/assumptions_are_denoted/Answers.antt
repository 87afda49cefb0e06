use Rattle.lego_grammar.proofs.DenotedTexts.{assumptions_are_denoted}
use Rattle.lego_grammar.proofs.examples.assumptions_are_denoted.Goals as goal

pub returns : goal.returns
returns c = assumptions_are_denoted
