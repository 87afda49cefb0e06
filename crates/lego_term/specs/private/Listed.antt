-- The variables of listed constants, kept in a map.
use Rattle.std.specs.Prelude.{◌≡◌, ℕ, List}
use Rattle.std.specs.Ordering.{nat_cmp}
use Rattle.std.specs.BTreeMap.{BTreeMap, get}
use Rattle.lego_term.specs.Trees.{listed_variable}

-- the map has each listed constant's variable, and nothing else
abbrev pub HasVariables : List ℕ → BTreeMap ℕ ℕ → Type 0
HasVariables numbers variables = (k : ℕ) → get nat_cmp variables k ≡ listed_variable numbers k
