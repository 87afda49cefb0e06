use Rattle.lego_laws.proofs.typing.subject_reduction.Goals as goal
use Rattle.lego_laws.proofs.lemmas.typing.TypingLaws.{subject_reduction_law}

pub returns : goal.returns
returns c = subject_reduction_law
