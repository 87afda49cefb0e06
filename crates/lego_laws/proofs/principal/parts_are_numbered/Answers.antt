use Rattle.lego_laws.proofs.principal.parts_are_numbered.Goals as goal
use Rattle.lego_laws.proofs.lemmas.principal.Nodes.{parts_are_numbered}

pub returns : goal.returns
returns c = parts_are_numbered
