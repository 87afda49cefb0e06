use Rattle.lego_laws.proofs.typing.thinning_by_constants.Goals as goal
use Rattle.lego_laws.proofs.lemmas.typing.TypingLaws.{thinning_by_constants}

pub returns : goal.returns
returns c = thinning_by_constants
