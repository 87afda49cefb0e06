use Rattle.lego_laws.proofs.principal.unsolvable_checks_have_no_typing.Goals as goal
use Rattle.lego_laws.proofs.lemmas.principal.PrincipalLaws.{unsolvable_checks_have_no_typing}

pub returns : goal.returns
returns c = unsolvable_checks_have_no_typing
