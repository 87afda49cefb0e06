-- What it is for a printed term to read back.
use Rattle.std.specs.Prelude.{◌≡◌, ℕ, ◌<◌, ◌^◌, true, List, [], map, MatchBool, Some, slice_get}
use Rattle.std.specs.List.{list_any}
use Rattle.lego_base.specs.declared.place.Place.{Place}
use Rattle.lego_term.specs.Levels.{Assignment, level_value}
use Rattle.lego_term.specs.Trees.{Core, Var, Const, Prop, Univ, Pi, Lam, App, Sigma, Pair, Fst, Snd, Let, map_tree}
use Rattle.lego_term.specs.declared.binder.Mark.TheVariants.{Plain}
use Rattle.lego_laws.specs.Entries.{Entry}
use Rattle.lego_lexer.specs.Tokens.{Name, token_of, Placed, Tokens}
use Rattle.lego_grammar.specs.Grammar.{Names, Nested, Form, item, Reads}
use Rattle.lego_grammar.specs.Written.{Written}
use Rattle.lego_grammar.specs.Scopes.{entry_named, no_variables}
use Rattle.lego_grammar.specs.Reading.{ReadsExplicitly}
use Rattle.lego_grammar.specs.Denotes.{MarkedTerm, grammar_tokens}
use Rattle.lego_grammar.specs.Developments.{is_printable}
use Rattle.lego_print.specs.declared.shown.Shown.{Shown}
use Rattle.lego_print.specs.declared.shown.Shown.TheVariants.{Least, Hidden}
use Rattle.lego_print.specs.Names.{Scope, is_text_of, is_free, names_in_use, printed_name}
use Rattle.lego_print.specs.Texts.{constant_text, binder_name, bound, unbound, is_arrow, is_unused, term_text}

-- levels are shown by their values at v
abbrev pub IsLeast : Shown → Assignment → Type 0
IsLeast (Least values) v = values.now ≡ v
IsLeast Hidden v = ⊥

-- the term at v, with marks and without names of binders
abbrev pub marked : Assignment → Core → MarkedTerm
marked v m = map_tree (λ x. x.mark) (λ mark. mark) (level_value v) m

-- the text is a name, and the names hold it
pub record IsHeldText (names : Names) (text : List ℕ) : Type 0 where
  pub number : ℕ
  pub held : slice_get names number ≡ Some text
  pub is_name : token_of text ≡ Some (Name text)

-- the constant is printed as the name of its entry, which is in scope, and has this number
pub record IsEntryText (names : Names) (es : List Entry) (scope : Scope) (k number_is : ℕ) : Type 0 where
  pub text : IsHeldText names (constant_text scope k)
  pub in_scope : list_any (is_text_of scope.names (constant_text scope k)) scope.entries ≡ true
  pub entry : Entry
  pub named : entry_named es text.number ≡ Some entry
  pub number : entry.number ≡ number_is

-- the printed name of a binder is a name that the names hold
pub record IsBinderText (names : Names) (scope : Scope) (text : List ℕ) : Type 0 where
  pub text_is : IsHeldText names text
  pub few : names_in_use scope < 2 ^ 64

-- The term can be read back, by the entries es and these names, where it stands in the scope: each constant is the name of an
-- entry in scope, each variable and each binder has a printed name, and these names are held; binders of Sigma types, pairs and
-- local definitions are plain, and values of levels are numbers of 64 bits. `numbers` gives the number of each constant's entry
-- among es.
abbrev pub IsReadable : Names → List Entry → (ℕ → ℕ) → Assignment → Scope → Core → Type 0
IsReadable names es numbers v scope (Var i) = (text : List ℕ) × (slice_get scope.locals i ≡ Some (Some text))
IsReadable names es numbers v scope (Const k) = IsEntryText names es scope k (numbers k)
IsReadable names es numbers v scope Prop = Unit {0}
IsReadable names es numbers v scope (Univ l) = level_value v l < 2 ^ 64
IsReadable names es numbers v scope (Pi x a b) =
    IsReadable names es numbers v scope a
    × MatchBool (is_arrow x b) (IsReadable names es numbers v (unbound scope) b)
    (IsBinderText names scope (binder_name scope x.name) × IsReadable names es numbers v (bound scope x.name) b)
IsReadable names es numbers v scope (Lam x a m) =
    IsReadable names es numbers v scope a × IsBinderText names scope (binder_name scope x.name) × IsReadable names es numbers v (bound scope x.name) m
IsReadable names es numbers v scope (App mark m n) = IsReadable names es numbers v scope m × IsReadable names es numbers v scope n
IsReadable names es numbers v scope (Sigma x a b) =
    (x.mark ≡ Plain) × IsReadable names es numbers v scope a
    × MatchBool (is_unused b) (IsReadable names es numbers v (unbound scope) b)
    (IsBinderText names scope (binder_name scope x.name) × IsReadable names es numbers v (bound scope x.name) b)
IsReadable names es numbers v scope (Pair x a b m n) =
    (x.mark ≡ Plain) × IsReadable names es numbers v scope a
    × MatchBool (is_unused b) (IsReadable names es numbers v (unbound scope) b)
    (IsBinderText names scope (binder_name scope x.name) × IsReadable names es numbers v (bound scope x.name) b)
    × IsReadable names es numbers v scope m × IsReadable names es numbers v scope n
IsReadable names es numbers v scope (Fst m) = IsReadable names es numbers v scope m
IsReadable names es numbers v scope (Snd m) = IsReadable names es numbers v scope m
IsReadable names es numbers v scope (Let x m n) =
    (x.mark ≡ Plain) × IsReadable names es numbers v scope m × IsBinderText names scope (binder_name scope x.name)
    × IsReadable names es numbers v (bound scope x.name) n

-- The text, whose first byte stands at this place, is lexed as tokens; these are read by the grammar as a written term; and
-- this is read, in explicit mode, as a core that is equal to the term at v up to names of binders. In the written term no
-- `Type` is without a level, no goal stands, and the written type of each pair is a Sigma binder or a `#`.
pub record ReadsBack (names : Names) (es : List Entry) (place : Place) (text : List ℕ) (v : Assignment) (t : Core) : Type 0 where
  pub tokens : List Placed
  pub lexed : Tokens place text tokens
  pub nested : List Nested
  pub same_tokens : map item nested ≡ grammar_tokens tokens
  pub written : Written
  pub parsed : Reads names 0 Form.Term nested written
  pub core : Core
  pub read : ReadsExplicitly es no_variables [] written core
  pub same : marked [] core ≡ marked v t
  pub printable : is_printable written ≡ true

-- a printed name is free
abbrev pub PrintedNamesAreFree : Type 0
PrintedNamesAreFree = (scope : Scope) (wished : List ℕ) → names_in_use scope < 2 ^ 64 → is_free scope (printed_name scope wished) ≡ true

-- and a name, where the wished one is
abbrev pub PrintedNamesAreNames : Type 0
PrintedNamesAreNames =
    (scope : Scope) (wished : List ℕ) → names_in_use scope < 2 ^ 64 → token_of wished ≡ Some (Name wished)
    → token_of (printed_name scope wished) ≡ Some (Name (printed_name scope wished))

-- a printed term reads back, at the levels shown
abbrev pub PrintedTermsReadBack : Type 0
PrintedTermsReadBack =
    (levels : Shown) (v : Assignment) (names : Names) (es : List Entry) (scope : Scope) (place : Place) (t : Core)
    → IsLeast levels v → scope.locals ≡ [] → IsReadable names es (λ k. k) v scope t
    → ReadsBack names es place (term_text levels scope 0 t) v t
