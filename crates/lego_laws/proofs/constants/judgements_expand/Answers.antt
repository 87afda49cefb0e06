use Rattle.lego_laws.proofs.constants.judgements_expand.Goals as goal
use Rattle.lego_laws.proofs.lemmas.constants.ExpansionLaws.{judgements_expand}

pub returns : goal.returns
returns c = judgements_expand
