use Rattle.lego_lexer.proofs.CutsExist.{scripts_cut, fronts_stay}
use Rattle.lego_lexer.proofs.ScriptsGoOn.{scripts_go_on}
use Rattle.lego_lexer.proofs.laws.scripts_are_cut.Goals as goal

pub returns : goal.returns
returns c = record { some = scripts_cut; on = scripts_go_on; fronts = fronts_stay }
