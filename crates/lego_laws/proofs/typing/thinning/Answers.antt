use Rattle.lego_laws.proofs.typing.thinning.Goals as goal
use Rattle.lego_laws.proofs.lemmas.typing.TypingLaws.{thinning_law}

pub returns : goal.returns
returns c = thinning_law
