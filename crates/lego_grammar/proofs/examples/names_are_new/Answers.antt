use Rattle.lego_grammar.proofs.DenotedTexts.{names_are_new}
use Rattle.lego_grammar.proofs.examples.names_are_new.Goals as goal

pub returns : goal.returns
returns c = names_are_new
