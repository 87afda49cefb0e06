use Rattle.lego_laws.proofs.inference.fits_sigma.Goals as goal
use Rattle.lego_laws.proofs.lemmas.inference.InferenceLaws.{fits_sigma}

pub returns : goal.returns
returns c = fits_sigma
