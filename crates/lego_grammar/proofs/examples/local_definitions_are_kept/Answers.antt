use Rattle.lego_grammar.proofs.DenotedTexts.{local_definitions_are_kept}
use Rattle.lego_grammar.proofs.examples.local_definitions_are_kept.Goals as goal

pub returns : goal.returns
returns c = local_definitions_are_kept
