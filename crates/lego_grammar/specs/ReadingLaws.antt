-- The laws of explicit reading: what makes "the" core of a written term, and "the" entries of a text.
use Rattle.std.specs.Prelude.{◌≡◌, ℕ, List}
use Rattle.lego_base.specs.Names.{AreDistinct}
use Rattle.lego_base.specs.declared.place.Place.{Place}
use Rattle.lego_term.specs.Levels.{Assignment}
use Rattle.lego_term.specs.Trees.{Core}
use Rattle.lego_laws.specs.Entries.{Entry}
use Rattle.lego_grammar.specs.Written.{Written}
use Rattle.lego_grammar.specs.Grammar.{Names}
use Rattle.lego_grammar.specs.Scopes.{Scope, TypeVariables}
use Rattle.lego_grammar.specs.Reading.{ReadsExplicitly}
use Rattle.lego_grammar.specs.ReadingOrder.{ReadsWithin, ReadingRefusal, IsRefused}
use Rattle.lego_grammar.specs.Denotes.{Declaration, Declares, ReadsDeclarations, contents_at, Denotes}

-- a written term is read as at most one core
abbrev pub OneCore : Type 0
OneCore =
    (es : List Entry) (types : TypeVariables) (scope : Scope) (s : Written) (c d : Core)
    → ReadsExplicitly es types scope s c → ReadsExplicitly es types scope s d → c ≡ d

-- a written term that is refused is not read within the limits, and refused in one way
abbrev pub RefusalsExcludeReading : Type 0
RefusalsExcludeReading =
    (es : List Entry) (types : TypeVariables) (scope : Scope) (s : Written) (refusal : ReadingRefusal) (c : Core)
    → IsRefused es types scope s refusal → ReadsWithin es types scope s c → ⊥

abbrev pub OneReadingRefusal : Type 0
OneReadingRefusal =
    (es : List Entry) (types : TypeVariables) (scope : Scope) (s : Written) (one other : ReadingRefusal)
    → IsRefused es types scope s one → IsRefused es types scope s other → one ≡ other

-- a text is at most one list of declarations, where each text of a name has one number
abbrev pub OneListOfDeclarations : Type 0
OneListOfDeclarations =
    (names : Names) (place : Place) (text : List ℕ) (ds es : List Declaration) → AreDistinct names
    → Declares names place text ds → Declares names place text es → ds ≡ es

-- declarations are read as at most one list of entries
abbrev pub OneListOfEntries : Type 0
OneListOfEntries =
    (before : List Entry) (ds : List Declaration) (es fs : List Entry)
    → ReadsDeclarations before ds es → ReadsDeclarations before ds fs → es ≡ fs

-- Where a text denotes entries at v and others at w, they are equal up to the numbers of entries and the names of binders:
-- in order, their names, marks, types and bodies at these levels are the same.
abbrev pub OneContent : Type 0
OneContent =
    (names : Names) (place : Place) (text : List ℕ) (v w : Assignment) (es fs : List Entry) → AreDistinct names
    → Denotes names place text v es → Denotes names place text w fs → contents_at v es ≡ contents_at w fs
