use Rattle.lego_laws.proofs.inference.fits_pair.Goals as goal
use Rattle.lego_laws.proofs.lemmas.inference.InferenceLaws.{fits_pair}

pub returns : goal.returns
returns c = fits_pair
