use Rattle.lego_grammar.proofs.DenotedTexts.{levels_are_values}
use Rattle.lego_grammar.proofs.examples.levels_are_values.Goals as goal

pub returns : goal.returns
returns c = levels_are_values
