use Rattle.lego_laws.proofs.inference.fits_application.Goals as goal
use Rattle.lego_laws.proofs.lemmas.inference.InferenceLaws.{fits_application}

pub returns : goal.returns
returns c = fits_application
