use Rattle.lego_laws.proofs.inference.fits_in_wider_range.Goals as goal
use Rattle.lego_laws.proofs.lemmas.inference.InferenceLaws.{fits_in_wider_range}

pub returns : goal.returns
returns c = fits_in_wider_range
