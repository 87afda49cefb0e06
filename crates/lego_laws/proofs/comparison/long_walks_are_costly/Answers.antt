use Rattle.lego_laws.proofs.comparison.long_walks_are_costly.Goals as goal
use Rattle.lego_laws.proofs.lemmas.comparison.Counted.{long_walks_are_costly}

pub returns : goal.returns
returns c = long_walks_are_costly
