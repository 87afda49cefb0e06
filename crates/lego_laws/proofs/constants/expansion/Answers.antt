use Rattle.lego_laws.proofs.constants.expansion.Goals as goal
use Rattle.lego_laws.proofs.lemmas.constants.ExpansionLaws.{expansion}

pub returns : goal.returns
returns c = expansion
