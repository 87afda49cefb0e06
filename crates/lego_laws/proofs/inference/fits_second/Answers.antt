use Rattle.lego_laws.proofs.inference.fits_second.Goals as goal
use Rattle.lego_laws.proofs.lemmas.inference.InferenceLaws.{fits_second}

pub returns : goal.returns
returns c = fits_second
