use Rattle.lego_laws.proofs.typing.narrowing.Goals as goal
use Rattle.lego_laws.proofs.lemmas.typing.TypingLaws.{narrowing_law}

pub returns : goal.returns
returns c = narrowing_law
