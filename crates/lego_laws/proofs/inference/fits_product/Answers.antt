use Rattle.lego_laws.proofs.inference.fits_product.Goals as goal
use Rattle.lego_laws.proofs.lemmas.inference.InferenceLaws.{fits_product}

pub returns : goal.returns
returns c = fits_product
