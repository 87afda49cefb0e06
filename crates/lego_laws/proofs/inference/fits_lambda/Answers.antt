use Rattle.lego_laws.proofs.inference.fits_lambda.Goals as goal
use Rattle.lego_laws.proofs.lemmas.inference.InferenceLaws.{fits_lambda}

pub returns : goal.returns
returns c = fits_lambda
