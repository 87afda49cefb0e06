use Rattle.lego_laws.proofs.inference.fits_universe.Goals as goal
use Rattle.lego_laws.proofs.lemmas.inference.InferenceLaws.{fits_universe}

pub returns : goal.returns
returns c = fits_universe
