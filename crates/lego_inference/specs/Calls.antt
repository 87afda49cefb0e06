-- What the calls ask, and what they answer.
use Rattle.std.specs.Prelude.{ℕ, ◌≤◌, List, length, Result, Ok, Err}
use Rattle.std.specs.List.{AllByRecursion}
use Rattle.lego_term.specs.Trees.{Core}
use Rattle.lego_laws.specs.Places.{Task, Aim, AnyType, BeAType, OfType, OfWrittenType}
use Rattle.lego_laws.specs.Principal.{entries_bound}
use Rattle.lego_laws.specs.Ranges.{locals_bound}
use Rattle.lego_laws.specs.RuleTypeLaws.{AreScoped}
use Rattle.lego_inference.specs.declared.entry.Entry.{Entry as Item}
use Rattle.lego_inference.specs.declared.entry.At.{At}
use Rattle.lego_inference.specs.declared.entry.Judged.{Judged}
use Rattle.lego_inference.specs.declared.fault.TypeFault.{TypeFault}
use Rattle.lego_inference.specs.declared.locals.Local.{Local}
use Rattle.lego_inference.specs.Entries.{laws_entries, HoldsInEntries}
use Rattle.lego_inference.specs.Locals.{types_of, site_of, NamesEntries, IsOver}
use Rattle.lego_inference.specs.Failures.{TypeFails}
use Rattle.lego_inference.specs.Inferred.{IsInferred, IsInferredType, IsChecked, IsCheckedWritten}

-- The level variables below a number are held: those of the entries and of the local types, of which each is over those outside
-- it. Entries and local types name only entries of the list, and their levels are small.
pub record AreHeld (es : List Item) (locals : List Local) (levels : ℕ) : Type 0 where
  pub entries : entries_bound (laws_entries es) ≤ levels
  pub types : locals_bound (types_of locals) ≤ levels
  pub named_entries : HoldsInEntries (NamesEntries (laws_entries es)) (laws_entries es)
  pub named_types : AllByRecursion (NamesEntries (laws_entries es)) (types_of locals)
  pub scoped : AreScoped (types_of locals)
  pub few_locals : length locals ≤ 61536
  pub few_levels : levels ≤ 1048576

-- the term is over the entries, the locals and the level variables held
abbrev pub IsTermOver : List Item → List Local → ℕ → Core → Type 0
IsTermOver es locals levels m = IsOver (laws_entries es) (types_of locals) levels m

-- what is to be typed over entries and locals; its nodes take the next level variables
abbrev pub task_over : List Item → List Local → ℕ → Core → Aim → Task
task_over es locals levels m aim = record { entries = laws_entries es; site = site_of locals levels; core = m; aim = aim }

abbrev pub Infers : Task → At → Result Judged TypeFault → Type 0
Infers t asked (Ok judged) = IsInferred t asked.place judged
Infers t asked (Err fault) = TypeFails asked.limit t fault

abbrev pub InfersType : Task → At → Result Judged TypeFault → Type 0
InfersType t asked (Ok judged) = IsInferredType t asked.place judged
InfersType t asked (Err fault) = TypeFails asked.limit t fault

abbrev pub Checks : Task → Core → At → Result Judged TypeFault → Type 0
Checks t want asked (Ok judged) = IsChecked t want asked.place judged
Checks t want asked (Err fault) = TypeFails asked.limit t fault

abbrev pub ChecksWritten : Task → Core → At → Result Judged TypeFault → Type 0
ChecksWritten t written asked (Ok judged) = IsCheckedWritten t written asked.place judged
ChecksWritten t written asked (Err fault) = TypeFails asked.limit t fault
