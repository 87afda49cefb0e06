use Rattle.lego_laws.proofs.constants.replacement.Goals as goal
use Rattle.lego_laws.proofs.lemmas.constants.ReplacementLaws.{replacement}

pub returns : goal.returns
returns c = replacement
