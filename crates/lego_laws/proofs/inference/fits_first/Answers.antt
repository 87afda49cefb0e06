use Rattle.lego_laws.proofs.inference.fits_first.Goals as goal
use Rattle.lego_laws.proofs.lemmas.inference.InferenceLaws.{fits_first}

pub returns : goal.returns
returns c = fits_first
