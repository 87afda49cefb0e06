use Rattle.lego_laws.proofs.typing.substitution.Goals as goal
use Rattle.lego_laws.proofs.lemmas.typing.TypingLaws.{substitution_law}

pub returns : goal.returns
returns c = substitution_law
