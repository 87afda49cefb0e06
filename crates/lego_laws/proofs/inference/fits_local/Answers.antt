use Rattle.lego_laws.proofs.inference.fits_local.Goals as goal
use Rattle.lego_laws.proofs.lemmas.inference.FitsLocal.{fits_local}

pub returns : goal.returns
returns c = fits_local
