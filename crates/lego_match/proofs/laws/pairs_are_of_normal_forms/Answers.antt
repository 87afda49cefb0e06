use Rattle.lego_match.proofs.NormalLemmas.{pairs_are_of_normal_forms}
use Rattle.lego_match.proofs.laws.pairs_are_of_normal_forms.Goals as goal

pub returns : goal.returns
returns c = pairs_are_of_normal_forms
