use Rattle.lego_laws.proofs.principal.small_tasks_have_small_solutions.Goals as goal
use Rattle.lego_laws.proofs.lemmas.principal.Tasks.{small_tasks_have_small_solutions}

pub returns : goal.returns
returns c = small_tasks_have_small_solutions
