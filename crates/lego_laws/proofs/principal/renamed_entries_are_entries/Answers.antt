use Rattle.lego_laws.proofs.principal.renamed_entries_are_entries.Goals as goal
use Rattle.lego_laws.proofs.lemmas.principal.RenamedEntries.{renamed_entries_are_entries}

pub returns : goal.returns
returns c = renamed_entries_are_entries
