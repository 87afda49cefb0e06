-- Development texts, and what is promised of the one that is printed.
use Rattle.std.specs.Prelude.{◌≡◌, ℕ, Bool, true, false, ◌&&◌, List, ◌++◌, All, option_map, unwrap_or}
use Rattle.lego_base.specs.Names.{AreDistinct}
use Rattle.lego_base.specs.declared.place.Place.{Place}
use Rattle.lego_term.specs.Levels.{Assignment}
use Rattle.lego_laws.specs.Entries.{Entry, entries_at}
use Rattle.lego_laws.specs.Expansion.{HoldsPurely}
use Rattle.lego_grammar.specs.declared.surface.Kind.{Kind}
use Rattle.lego_grammar.specs.Written.{Written}
use Rattle.lego_grammar.specs.Grammar.{Names}
use Rattle.lego_grammar.specs.Denotes.{Declaration, Declares, Denotes}

-- a Sigma binder or a `#`
abbrev pub is_written_sigma : Written → Bool
is_written_sigma (Written.Bind Kind.Sigma mark names s t) = true
is_written_sigma _ = false

-- no `Type` in the written term is without a level, there is no `?n`, and the written type of each pair is a Sigma binder or a `#`
abbrev pub is_printable : Written → Bool
is_printable (Written.Named p n) = true
is_printable Written.WrittenProp = true
is_printable (Written.AnyType p) = false
is_printable (Written.TypeAt n) = true
is_printable (Written.GoalAt p n) = false
is_printable (Written.Bind kind mark names s t) = is_printable s && is_printable t
is_printable (Written.Local n s t) = is_printable s && is_printable t
is_printable (Written.Apply mark s t) = is_printable s && is_printable t
is_printable (Written.Pair r s t) = is_printable r && (is_printable s && (is_printable t && is_written_sigma t))
is_printable (Written.Project part s) = is_printable s

abbrev pub is_printable_declaration : Declaration → Bool
is_printable_declaration d = is_printable d.ty && unwrap_or (option_map is_printable d.body) true

-- The text, whose first byte stands at this place, is a development: `Explicit;` and then an assumption of one name or a
-- definition with a written type in each command, with terms such as are printed.
pub record IsDevelopmentText (names : Names) (place : Place) (text : List ℕ) : Type 0 where
  pub declarations : List Declaration
  pub declares : Declares names place text declarations
  pub printable : All (λ d. is_printable_declaration d ≡ true) declarations

-- What is promised of a printed development, at the levels v: the text denotes the entries, under a numbering that goes on from
-- the names held; and by Luo's rules alone, with definitions expanded, each assumption's type is a type and each definition's
-- body has its type.
pub record Develops (names : Names) (place : Place) (text : List ℕ) (v : Assignment) (es : List Entry) : Type 0 where
  pub more : Names
  pub distinct : AreDistinct (names ++ more)
  pub denotes : Denotes (names ++ more) place text v es
  pub pure : HoldsPurely (entries_at v es)
