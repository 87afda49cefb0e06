-- Entries as a printer sees them.
use Rattle.std.specs.Prelude.{◌≡◌, ℕ, ◌<◌, ◌^◌, List, [], map, take, slice_get, Option, option_and_then}
use Rattle.lego_grammar.specs.Grammar.{Names}
use Rattle.lego_laws.specs.Entries.{Entry}
use Rattle.lego_inference.specs.declared.entry.Entry.{Entry as Item}
use Rattle.lego_inference.specs.Entries.{laws_entry}
use Rattle.lego_print.specs.Names.{Scope}
use Rattle.lego_print.specs.declared.item.Item.{Item as Printed}
use Rattle.lego_print.specs.declared.universes.Universe.{Universe as Listed}
use Rattle.lego_print.specs.Entries.{item_entry, item_entries}
use Rattle.lego_session.specs.Texts.{scope_among}

-- the name of the entry at a place
abbrev pub name_at : List Item → ℕ → Option ℕ
name_at es at = option_and_then (λ e. e.name) (slice_get es at)

-- what a text tells of an entry
abbrev pub told : Entry → Entry
told e = record e { hypotheses = 0; constraints = [] }

-- the item tells the entry, and the items tell the entries
abbrev pub IsItemOf : Printed → Item → Type 0
IsItemOf i e = item_entry i ≡ told (laws_entry e)

abbrev pub AreItemsOf : List Printed → List Item → Type 0
AreItemsOf items es = item_entries items ≡ map (λ e. told (laws_entry e)) es

-- the entries before the place are in scope
abbrev pub front_scope : Names → List Item × ℕ → Scope
front_scope names f = scope_among names f.0 (take f.1 f.0)

-- the place of a written `Type` has numbers of 64 bits
pub record HasSmallPlace (u : Listed) : Type 0 where
  pub line : u.place.line < 2 ^ 64
  pub column : u.place.column < 2 ^ 64
