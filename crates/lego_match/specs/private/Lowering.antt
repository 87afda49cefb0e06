-- What lowering a term past locals of which it has none answers.
use Rattle.std.specs.Prelude.{◌≡◌, ℕ, ◌<◌, Some, Result, Ok, Err}
use Rattle.lego_term.specs.Trees.{Core, lift}
use Rattle.lego_match.specs.Answers.{first_below}
use Rattle.lego_match.specs.declared.lowering.Raised.{Raised}
use Rattle.lego_match.specs.declared.lowering.Raised.TheVariants.{Local, Memory}

-- the term without the locals from `from` on, or the first of them that it has
abbrev pub Lowers : ℕ → ℕ → Core → Result Core Raised → Type 0
Lowers from by t (Ok u) = lift from by u ≡ t
Lowers from by t (Err (Local i)) = (first_below by from t ≡ Some i) × (i < by)
Lowers from by t (Err Memory) = Unit {0}
