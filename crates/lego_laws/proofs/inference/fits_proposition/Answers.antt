use Rattle.lego_laws.proofs.inference.fits_proposition.Goals as goal
use Rattle.lego_laws.proofs.lemmas.inference.InferenceLaws.{fits_proposition}

pub returns : goal.returns
returns c = fits_proposition
