use Rattle.lego_grammar.proofs.DenotedTexts.{innermost_names_count}
use Rattle.lego_grammar.proofs.examples.innermost_names_count.Goals as goal

pub returns : goal.returns
returns c = innermost_names_count
