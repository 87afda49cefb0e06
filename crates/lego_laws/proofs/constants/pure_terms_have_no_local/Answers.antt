use Rattle.lego_laws.proofs.constants.pure_terms_have_no_local.Goals as goal
use Rattle.lego_laws.proofs.lemmas.constants.NoLocals.{pure_terms_have_no_local}

pub returns : goal.returns
returns c = pure_terms_have_no_local
