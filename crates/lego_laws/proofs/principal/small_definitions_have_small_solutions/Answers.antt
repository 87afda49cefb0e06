use Rattle.lego_laws.proofs.principal.small_definitions_have_small_solutions.Goals as goal
use Rattle.lego_laws.proofs.lemmas.principal.PrincipalLaws.{small_definitions_have_small_solutions}

pub returns : goal.returns
returns c = small_definitions_have_small_solutions
