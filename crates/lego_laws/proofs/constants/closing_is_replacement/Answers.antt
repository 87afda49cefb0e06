use Rattle.lego_laws.proofs.constants.closing_is_replacement.Goals as goal
use Rattle.lego_laws.proofs.lemmas.constants.Closing.{closing_is_replacement}

pub returns : goal.returns
returns c = closing_is_replacement
