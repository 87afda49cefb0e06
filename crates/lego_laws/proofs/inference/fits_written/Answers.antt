use Rattle.lego_laws.proofs.inference.fits_written.Goals as goal
use Rattle.lego_laws.proofs.lemmas.inference.InferenceLaws.{fits_written}

pub returns : goal.returns
returns c = fits_written
