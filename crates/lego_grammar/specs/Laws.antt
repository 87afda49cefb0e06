-- The laws of the grammar: what makes "the" reading of tokens, and "the" nesting of a token.
use Rattle.std.specs.Prelude.{◌≡◌, ◌⊎◌, ℕ, List, map}
use Rattle.lego_base.specs.Names.{AreDistinct}
use Rattle.lego_grammar.specs.Written.{WrittenCommand}
use Rattle.lego_grammar.specs.Grammar.{Names, Nested, Item, item, ReadsCommand, IsContext}
use Rattle.lego_grammar.specs.Refusals.{GoesOn, IsUnexpected, IsTooDeep}

-- the same tokens are read as one command only, where different numbers have different texts
abbrev pub OneReading : Type 0
OneReading =
    (names : Names) (ts us : List Nested) (c c' : WrittenCommand) → AreDistinct names → ReadsCommand names ts c → ReadsCommand names us c'
    → map item ts ≡ map item us → c ≡ c'

-- each token of a command has one nesting, however its names are numbered
abbrev pub OneNesting : Type 0
OneNesting =
    (names names' : Names) (ts us : List Nested) (c c' : WrittenCommand) → ReadsCommand names ts c → ReadsCommand names' us c'
    → map item ts ≡ map item us → ts ≡ us

-- the same tokens aren't both a context command and another one
abbrev pub OneKind : Type 0
OneKind =
    (names names' : Names) (ts us : List Nested) (c c' : WrittenCommand) → ReadsCommand names ts c → ReadsCommand names' us c'
    → map item ts ≡ map item us → IsContext c.act → IsContext c'.act

-- it is decided whether some command begins with these tokens
abbrev pub Decided : Type 0
Decided = (tokens : List Item) → GoesOn tokens ⊎ (GoesOn tokens → ⊥)

-- at most one token is the first after which no reading exists, and at most one the first that is nested too deep
abbrev pub OneRefusal : Type 0
OneRefusal =
    ((tokens : List Item) (n m : ℕ) → IsUnexpected tokens n → IsUnexpected tokens m → n ≡ m)
    × ((tokens : List Item) (n m : ℕ) → IsTooDeep tokens n → IsTooDeep tokens m → n ≡ m)
