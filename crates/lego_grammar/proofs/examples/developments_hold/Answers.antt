use Rattle.lego_grammar.proofs.DenotedTexts.{developments_hold}
use Rattle.lego_grammar.proofs.examples.developments_hold.Goals as goal

pub returns : goal.returns
returns c = developments_hold
