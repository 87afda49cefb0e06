use Rattle.lego_laws.proofs.constants.unreached_is_unmentioned.Goals as goal
use Rattle.lego_laws.proofs.lemmas.constants.Unreached.{unreached_is_unmentioned}

pub returns : goal.returns
returns c = unreached_is_unmentioned
