use Rattle.lego_laws.proofs.comparison.comparison_is_exact.Goals as goal
use Rattle.lego_laws.proofs.lemmas.comparison.Comparing.{comparison_is_exact}

pub returns : goal.returns
returns c = comparison_is_exact
