use Rattle.lego_laws.proofs.principal.parts_stand_apart.Goals as goal
use Rattle.lego_laws.proofs.lemmas.principal.Nodes.{parts_stand_apart}

pub returns : goal.returns
returns c = parts_stand_apart
