use Rattle.lego_laws.proofs.inference.fits_constant.Goals as goal
use Rattle.lego_laws.proofs.lemmas.inference.InferenceLaws.{fits_constant}

pub returns : goal.returns
returns c = fits_constant
