use Rattle.lego_laws.proofs.comparison.difference_excludes_conversion.Goals as goal
use Rattle.lego_laws.proofs.lemmas.comparison.Differing.{difference_excludes_conversion}

pub returns : goal.returns
returns c = difference_excludes_conversion
