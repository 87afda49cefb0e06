use Rattle.lego_laws.proofs.inference.fits_against.Goals as goal
use Rattle.lego_laws.proofs.lemmas.inference.InferenceLaws.{fits_against}

pub returns : goal.returns
returns c = fits_against
