use Rattle.lego_laws.proofs.inference.fits_by_others.Goals as goal
use Rattle.lego_laws.proofs.lemmas.inference.InferenceLaws.{fits_by_others}

pub returns : goal.returns
returns c = fits_by_others
