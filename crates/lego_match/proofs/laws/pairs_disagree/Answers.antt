use Rattle.lego_match.proofs.UniqueLemmas.{pairs_disagree}
use Rattle.lego_match.proofs.laws.pairs_disagree.Goals as goal

pub returns : goal.returns
returns c = pairs_disagree
