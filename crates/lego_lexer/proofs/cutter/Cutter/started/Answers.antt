use Rattle.lego_lexer.proofs.CutterLemmas.{stands_started}
use Rattle.lego_lexer.proofs.cutter.Cutter.started.Goals as goal

pub returns : goal.returns
returns c = λ from bytes s. stands_started s
