use Rattle.lego_laws.proofs.principal.unsolvable_tasks_have_no_typing.Goals as goal
use Rattle.lego_laws.proofs.lemmas.principal.Tasks.{unsolvable_tasks_have_no_typing}

pub returns : goal.returns
returns c = unsolvable_tasks_have_no_typing
