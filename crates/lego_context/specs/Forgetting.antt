-- Fronts of contexts, and lists that make contexts.
use Rattle.std.specs.Prelude.{ℕ, suc, max, ◌≤◌, List, [], ◌∷◌, map, filter, take, length, All}
use Rattle.std.specs.List.{list_any}
use Rattle.lego_laws.specs.Entries.{entry_uses}
use Rattle.lego_laws.specs.Valid.{AlwaysValid}
use Rattle.lego_laws.specs.Principal.{entries_bound}
use Rattle.lego_level.specs.Graphs.{Differ, CanBeSatisfiedWithin}
use Rattle.lego_inference.specs.declared.entry.Entry.{Entry as Item}
use Rattle.lego_inference.specs.declared.entry.Universe.{Universe}
use Rattle.lego_inference.specs.Entries.{laws_entries}
use Rattle.lego_context.specs.Entries.{constraints_of, IsEntry, HasHolesLast, HaveDistinctNames, HaveDistinctNumbers}
use Rattle.lego_context.specs.Contexts.{Contents, AreFrontsValid, CanStandAlone, IsSmallEntry}

-- the written `Type`s whose variables the entries use
abbrev pub universes_used : List Item → List Universe → List Universe
universes_used es us = filter (λ u. list_any (entry_uses u.variable) (laws_entries es)) us

-- the entries before the place can stand alone
pub record CanBeForgotten (c : Contents) (at : ℕ) : Type 0 where
  pub within : at ≤ length c.entries
  pub alone : CanStandAlone (take at c.entries)

-- the context of the entries before the place, with the universes that they use; the next level variable is one above the
-- greatest
abbrev pub front_of : Contents → ℕ → Contents
front_of c at = record {
  entries = take at c.entries;
  universes = universes_used (take at c.entries) c.universes;
  levels = entries_bound (laws_entries (take at c.entries));
}

-- one above the greatest level variable of the universes, and of entries and universes
abbrev pub universes_bound : List Universe → ℕ
universes_bound [] = 0
universes_bound (u ∷ us) = max (suc u.variable) (universes_bound us)

abbrev pub levels_named : List Item → List Universe → ℕ
levels_named es us = max (entries_bound (laws_entries es)) (universes_bound us)

-- what lists of entries and universes must be to make a context
pub record CanBeContext (es : List Item) (us : List Universe) : Type 0 where
  pub valid : AlwaysValid (laws_entries es)
  pub fronts : AreFrontsValid es
  pub satisfiable : CanBeSatisfiedWithin (constraints_of es)
  pub names : HaveDistinctNames es
  pub numbers : HaveDistinctNumbers es
  pub kinds : All IsEntry es
  pub holes : HasHolesLast es
  pub small : All IsSmallEntry es
  pub universes_differ : Differ (map (λ u. u.variable) us)
  pub few_entries : length es ≤ 65536
  pub few_levels : levels_named es us ≤ 1048576

-- the context of listed entries and universes
abbrev pub of_lists : List Item → List Universe → Contents
of_lists es us = record { entries = es; universes = us; levels = levels_named es us }
