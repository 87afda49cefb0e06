use Rattle.lego_grammar.proofs.DenotedTexts.{copies_share_levels}
use Rattle.lego_grammar.proofs.examples.copies_share_levels.Goals as goal

pub returns : goal.returns
returns c = copies_share_levels
