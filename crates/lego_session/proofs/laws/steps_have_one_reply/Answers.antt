use Rattle.lego_session.proofs.OneStepLemmas.{steps_have_one_reply}
use Rattle.lego_session.proofs.laws.steps_have_one_reply.Goals as goal

pub returns : goal.returns
returns c = steps_have_one_reply
