use Rattle.lego_match.proofs.AgreeingLemmas.{agreement_is_of_normal_forms}
use Rattle.lego_match.proofs.laws.agreement_is_of_normal_forms.Goals as goal

pub returns : goal.returns
returns c = agreement_is_of_normal_forms
