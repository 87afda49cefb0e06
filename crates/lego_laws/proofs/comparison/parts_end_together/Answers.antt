use Rattle.lego_laws.proofs.comparison.parts_end_together.Goals as goal
use Rattle.lego_laws.proofs.lemmas.comparison.Reaching.{parts_end_together}

pub returns : goal.returns
returns c = parts_end_together
