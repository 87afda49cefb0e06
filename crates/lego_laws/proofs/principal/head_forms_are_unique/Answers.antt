use Rattle.lego_laws.proofs.principal.head_forms_are_unique.Goals as goal
use Rattle.lego_laws.proofs.lemmas.principal.RuleTypesUnique.{head_forms_are_unique}

pub returns : goal.returns
returns c = head_forms_are_unique
