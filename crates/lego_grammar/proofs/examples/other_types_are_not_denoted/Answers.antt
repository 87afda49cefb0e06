use Rattle.lego_grammar.proofs.DenotedTexts.{other_types_are_not_denoted}
use Rattle.lego_grammar.proofs.examples.other_types_are_not_denoted.Goals as goal

pub returns : goal.returns
returns c = other_types_are_not_denoted
