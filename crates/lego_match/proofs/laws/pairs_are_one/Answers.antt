use Rattle.lego_match.proofs.UniqueLemmas.{pairs_are_one}
use Rattle.lego_match.proofs.laws.pairs_are_one.Goals as goal

pub returns : goal.returns
returns c = pairs_are_one
