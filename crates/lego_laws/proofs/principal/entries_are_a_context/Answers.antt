use Rattle.lego_laws.proofs.principal.entries_are_a_context.Goals as goal
use Rattle.lego_laws.proofs.lemmas.principal.EntriesAt.{entries_are_a_context}

pub returns : goal.returns
returns c = entries_are_a_context
