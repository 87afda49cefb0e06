use Rattle.lego_laws.proofs.constants.judgements_fill.Goals as goal
use Rattle.lego_laws.proofs.lemmas.constants.ExpansionLaws.{judgements_fill}

pub returns : goal.returns
returns c = judgements_fill
