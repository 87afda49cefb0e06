-- Contexts taken back to what they were before the last entries, universes and level variables were added.
use Rattle.std.specs.Prelude.{ℕ, ◌<◌, ◌≤◌, take, length, All}
use Rattle.lego_laws.specs.Principal.{entries_bound}
use Rattle.lego_inference.specs.Entries.{laws_entries}
use Rattle.lego_context.specs.Contexts.{Contents, CanStandAlone}

-- There are so many entries, universes and level variables. The first entries can stand alone, and they and the first universes
-- have no other level variable.
pub record CanBeCut (c : Contents) (entries universes levels : ℕ) : Type 0 where
  pub entries_within : entries ≤ length c.entries
  pub universes_within : universes ≤ length c.universes
  pub levels_within : levels ≤ c.levels
  pub alone : CanStandAlone (take entries c.entries)
  pub entries_held : entries_bound (laws_entries (take entries c.entries)) ≤ levels
  pub universes_held : All (λ u. u.variable < levels) (take universes c.universes)

-- the context of so many first entries, universes and level variables
abbrev pub cut_of : Contents → ℕ → ℕ → ℕ → Contents
cut_of c entries universes levels = record {
  entries = take entries c.entries;
  universes = take universes c.universes;
  levels = levels;
}
