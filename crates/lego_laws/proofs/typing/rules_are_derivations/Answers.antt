use Rattle.lego_laws.proofs.typing.rules_are_derivations.Goals as goal
use Rattle.lego_laws.proofs.lemmas.typing.TypingLaws.{rules_are_derivations}

pub returns : goal.returns
returns c = rules_are_derivations
