use Rattle.lego_laws.proofs.inference.fits_variable.Goals as goal
use Rattle.lego_laws.proofs.lemmas.inference.InferenceLaws.{fits_variable}

pub returns : goal.returns
returns c = fits_variable
