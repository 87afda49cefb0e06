use Rattle.lego_laws.proofs.constants.reordering.Goals as goal
use Rattle.lego_laws.proofs.lemmas.constants.Reordered.{reordering}

pub returns : goal.returns
returns c = reordering
