use Rattle.lego_laws.proofs.constants.reordered_judgements.Goals as goal
use Rattle.lego_laws.proofs.lemmas.constants.Reordered.{reordered_judgements}

pub returns : goal.returns
returns c = reordered_judgements
