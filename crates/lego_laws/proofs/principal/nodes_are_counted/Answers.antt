use Rattle.lego_laws.proofs.principal.nodes_are_counted.Goals as goal
use Rattle.lego_laws.proofs.lemmas.principal.Nodes.{nodes_are_counted}

pub returns : goal.returns
returns c = nodes_are_counted
