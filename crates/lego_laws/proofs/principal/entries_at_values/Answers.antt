use Rattle.lego_laws.proofs.principal.entries_at_values.Goals as goal
use Rattle.lego_laws.proofs.lemmas.principal.EntriesAt.{entries_at_values}

pub returns : goal.returns
returns c = entries_at_values
