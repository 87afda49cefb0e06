-- The entries of a context: their constraints, names, numbers and kinds.
use Rattle.std.specs.Prelude.{◌≡◌, ℕ, zero, suc, ◌<◌, ◌⊎◌, Bool, false, nat_eq, List, [], ◌∷◌, ◌++◌, filter_map, position, Option, Some, None, option_map, unwrap_or, All, Contains}
use Rattle.lego_term.specs.Trees.{Core, Pi}
use Rattle.lego_level.specs.declared.constraint.Constraint.{Constraint}
use Rattle.lego_level.specs.Graphs.{Differ}
use Rattle.lego_inference.specs.declared.entry.Entry.{Entry as Item}
use Rattle.lego_inference.specs.declared.entry.EntryKind.{EntryKind}
use Rattle.lego_inference.specs.declared.entry.EntryKind.TheVariants.{Assumed, Defined, Hole, Filled}
use Rattle.lego_inference.specs.Entries.{numbers_of}

-- the constraints kept with the entries, with their places
abbrev pub constraints_of : List Item → List Constraint
constraints_of [] = []
constraints_of (e ∷ es) = e.constraints ++ constraints_of es

-- the names of the entries, without those that have none
abbrev pub names_of : List Item → List ℕ
names_of es = filter_map (λ e. e.name) es

-- the entry has this name
abbrev pub is_named : ℕ → Item → Bool
is_named name e = unwrap_or (option_map (nat_eq name) e.name) false

-- the place of the entry of a name, and of a number
abbrev pub position_of : List Item → ℕ → Option ℕ
position_of es name = position (is_named name) es

abbrev pub place_of_number : List Item → ℕ → Option ℕ
place_of_number es number = position (nat_eq number) (numbers_of es)

-- A name stands exactly at an assumption and a definition, a body exactly at a definition and a filled hole, and only holes have
-- hypotheses.
abbrev pub FitsKind : EntryKind → Option ℕ → Option Core → ℕ → Type 0
FitsKind Assumed (Some name) None hypotheses = hypotheses ≡ 0
FitsKind Defined (Some name) (Some body) hypotheses = hypotheses ≡ 0
FitsKind Hole None None hypotheses = Unit {0}
FitsKind Filled None (Some body) hypotheses = Unit {0}
FitsKind _ _ _ _ = ⊥

-- the term begins with so many products
abbrev pub BeginsWithProducts : ℕ → Core → Type 0
BeginsWithProducts zero t = Unit {0}
BeginsWithProducts (suc n) (Pi x a b) = BeginsWithProducts n b
BeginsWithProducts (suc n) _ = ⊥

-- the entry has what its kind says
pub record IsEntry (e : Item) : Type 0 where
  pub kind : FitsKind e.kind e.name e.body e.hypotheses
  pub products : BeginsWithProducts e.hypotheses e.ty

-- the entry is no hole, filled or not
abbrev pub IsNoHole : EntryKind → Type 0
IsNoHole Assumed = Unit {0}
IsNoHole Defined = Unit {0}
IsNoHole _ = ⊥

abbrev pub HasNoHole : List Item → Type 0
HasNoHole es = All (λ e. IsNoHole e.kind) es

-- no named entry stands behind a hole
abbrev pub HasHolesLast : List Item → Type 0
HasHolesLast [] = Unit {0}
HasHolesLast (e ∷ es) = (IsNoHole e.kind ⊎ (names_of es ≡ [])) × HasHolesLast es

-- names differ, and so do numbers
abbrev pub HaveDistinctNames : List Item → Type 0
HaveDistinctNames es = Differ (names_of es)

abbrev pub HaveDistinctNumbers : List Item → Type 0
HaveDistinctNumbers es = Differ (numbers_of es)

-- the least number that no entry has
pub record IsLeastFree (es : List Item) (number : ℕ) : Type 0 where
  pub free : Contains (numbers_of es) number → ⊥
  pub least : (k : ℕ) → k < number → Contains (numbers_of es) k
