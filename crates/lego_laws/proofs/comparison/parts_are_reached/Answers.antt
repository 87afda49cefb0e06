use Rattle.lego_laws.proofs.comparison.parts_are_reached.Goals as goal
use Rattle.lego_laws.proofs.lemmas.comparison.Reaching.{parts_are_reached}

pub returns : goal.returns
returns c = parts_are_reached
