use Rattle.lego_laws.proofs.typing.type_correctness.Goals as goal
use Rattle.lego_laws.proofs.lemmas.typing.TypingLaws.{type_correctness_law}

pub returns : goal.returns
returns c = type_correctness_law
