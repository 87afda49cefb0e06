use Rattle.lego_laws.proofs.principal.unsolvable_terms_have_no_type.Goals as goal
use Rattle.lego_laws.proofs.lemmas.principal.PrincipalLaws.{unsolvable_terms_have_no_type}

pub returns : goal.returns
returns c = unsolvable_terms_have_no_type
