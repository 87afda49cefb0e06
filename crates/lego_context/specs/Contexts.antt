-- What a context is.
use Rattle.std.specs.Prelude.{◌≡◌, ℕ, ◌<◌, ◌≤◌, ◌⊎◌, List, [], map, take, length, slice_get, Some, IfSome, All}
use Rattle.lego_term.specs.Levels.{Assignment, SatisfiesAll}
use Rattle.lego_term.specs.Trees.{Core}
use Rattle.lego_laws.specs.Entries.{entries_at, kept}
use Rattle.lego_laws.specs.Expansion.{HoldsPurely}
use Rattle.lego_laws.specs.Valid.{AlwaysValid}
use Rattle.lego_laws.specs.Principal.{entries_bound}
use Rattle.lego_level.specs.Graphs.{Differ, CanBeSatisfiedWithin}
use Rattle.lego_inference.specs.declared.entry.Entry.{Entry as Item}
use Rattle.lego_inference.specs.declared.entry.Universe.{Universe}
use Rattle.lego_inference.specs.Calls.{IsTermOver}
use Rattle.lego_inference.specs.Entries.{laws_entries}
use Rattle.lego_inference.specs.Locals.{EachLeaf}
use Rattle.lego_context.specs.Entries.{constraints_of, IsEntry, HasNoHole, HasHolesLast, HaveDistinctNames, HaveDistinctNumbers}

-- A context as contracts see it: its entries, the oldest first; its written `Type`s; and the number of level variables that
-- it holds, which are those below it.
pub record Contents : Type 0 where
  pub entries : List Item
  pub universes : List Universe
  pub levels : ℕ

abbrev pub empty : Contents
empty = record { entries = []; universes = []; levels = 0 }

-- each front of the entries without a hole is valid under each assignment that satisfies its own constraints
abbrev pub AreFrontsValid : List Item → Type 0
AreFrontsValid es = (n : ℕ) → HasNoHole (take n es) → AlwaysValid (laws_entries (take n es))

-- entries that can stand without those behind them: there is no hole, or they are valid under their own constraints
abbrev pub CanStandAlone : List Item → Type 0
CanStandAlone es = HasNoHole es ⊎ AlwaysValid (laws_entries es)

-- each level of the term is a number or a variable plus a number, which is at most 1,000,000
abbrev pub HasSmallLevels : Core → Type 0
HasSmallLevels t = EachLeaf (λ k. Unit {0}) (λ l. l.plus ≤ 1000000) t

pub record IsSmallEntry (e : Item) : Type 0 where
  pub type : HasSmallLevels e.ty
  pub body : IfSome e.body HasSmallLevels

-- The entries are valid at each assignment that satisfies their constraints, some assignment within the limit does, and
-- each level variable is one of those held.
pub record IsContext (c : Contents) : Type 0 where
  pub valid : AlwaysValid (laws_entries c.entries)
  pub fronts : AreFrontsValid c.entries
  pub satisfiable : CanBeSatisfiedWithin (constraints_of c.entries)
  pub names : HaveDistinctNames c.entries
  pub numbers : HaveDistinctNumbers c.entries
  pub kinds : All IsEntry c.entries
  pub holes : HasHolesLast c.entries
  pub small : All IsSmallEntry c.entries
  pub few_entries : length c.entries ≤ 65536
  pub few_levels : c.levels ≤ 1048576
  pub entries_held : entries_bound (laws_entries c.entries) ≤ c.levels
  pub universes_held : All (λ u. u.variable < c.levels) c.universes
  pub universes_differ : Differ (map (λ u. u.variable) c.universes)

-- the type and the body are over the entries before: they name these alone, have no loose variable, and small levels
pub record IsOverFront (before : List Item) (levels : ℕ) (e : Item) : Type 0 where
  pub type : IsTermOver before [] levels e.ty
  pub body : IfSome e.body (λ m. IsTermOver before [] levels m)

-- each entry is over those before it
abbrev pub AreOverFronts : Contents → Type 0
AreOverFronts c = (at : ℕ) (e : Item) → slice_get c.entries at ≡ Some e → IsOverFront (take at c.entries) c.levels e

-- At each assignment that satisfies the constraints, the entries hold by Luo's thirteen rules alone: each assumption's type is a
-- type, and each definition's body has its type, with the definitions before it expanded.
abbrev pub HoldsByLuosRules : Contents → Type 0
HoldsByLuosRules c = (v : Assignment) → SatisfiesAll v (kept (laws_entries c.entries)) → HoldsPurely (entries_at v (laws_entries c.entries))
