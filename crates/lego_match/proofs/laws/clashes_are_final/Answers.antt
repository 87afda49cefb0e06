use Rattle.lego_match.proofs.FillingLemmas.{clashes_are_final}
use Rattle.lego_match.proofs.laws.clashes_are_final.Goals as goal

pub returns : goal.returns
returns c = clashes_are_final
