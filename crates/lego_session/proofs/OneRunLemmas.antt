-- The bytes of a run are cut in one way.
use Rattle.lego_lexer.proofs.UniqueCuts.{scripts_unique}
use Rattle.lego_session.specs.Laws.{RunsHaveOneCut}

pub runs_have_one_cut : RunsHaveOneCut
runs_have_one_cut limit stop place bytes one other = scripts_unique place bytes one.commands other.commands one.ending other.ending one.cut other.cut
