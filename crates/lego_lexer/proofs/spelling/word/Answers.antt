use Rattle.std.proofs.Common.{refl}
use Rattle.lego_lexer.specs.Tokens.{word_text}
use Rattle.lego_lexer.proofs.spelling.word.Goals as goal

pub returns : goal.returns
returns c = c.look_up.ensures word_text refl
