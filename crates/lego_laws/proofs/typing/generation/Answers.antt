use Rattle.lego_laws.proofs.typing.generation.Goals as goal
use Rattle.lego_laws.proofs.lemmas.typing.TypingLaws.{generation_law}

pub returns : goal.returns
returns c = generation_law
