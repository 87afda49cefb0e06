use Rattle.lego_session.proofs.OneRunLemmas.{runs_have_one_cut}
use Rattle.lego_session.proofs.laws.runs_have_one_cut.Goals as goal

pub returns : goal.returns
returns c = runs_have_one_cut
