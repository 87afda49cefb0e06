use Rattle.lego_lexer.proofs.UniqueCuts.{cuts_unique, scripts_unique}
use Rattle.lego_lexer.proofs.laws.cuts_are_unique.Goals as goal

pub returns-clause-cuts : goal.returns-clause-cuts
returns-clause-cuts c = cuts_unique

pub returns-clause-scripts : goal.returns-clause-scripts
returns-clause-scripts c = scripts_unique
