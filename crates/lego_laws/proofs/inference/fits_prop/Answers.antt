use Rattle.lego_laws.proofs.inference.fits_prop.Goals as goal
use Rattle.lego_laws.proofs.lemmas.inference.InferenceLaws.{fits_prop}

pub returns : goal.returns
returns c = fits_prop
