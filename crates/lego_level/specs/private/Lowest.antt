-- Values of which each is as low above the zero node as the constraints allow.
use Rattle.std.specs.Prelude.{◌≡◌, ℕ, ◌<◌, ◌≤◌, ◌⊎◌, List, Option, Some, None, Contains}
use Rattle.lego_level.specs.declared.constraint.Constraint.{Constraint}
use Rattle.lego_level.specs.declared.draft.Reached.{Reached}
use Rattle.lego_level.specs.Graphs.{implied, IsVariableBelow}
use Rattle.lego_level.specs.private.Potentials.{low_of, high_of}

abbrev pub values_in : (Option ℕ → Reached) → Option ℕ → ℕ
values_in d u = (d u).value

-- the cause of a variable is tight, comes to it, and leaves a node of lower rank
pub record IsForced (cs : List Constraint) (n : ℕ) (d : Option ℕ → Reached) (u : ℕ) (c : Constraint) : Type 0 where
  pub known : Contains cs c ⊎ (c ≡ implied u)
  pub high : c.high.base ≡ Some u
  pub tight : low_of (values_in d) c ≡ high_of (values_in d) c
  pub rank : (d c.low.base).rank < (d (Some u)).rank
  pub below : IsVariableBelow n c.low.base

pub record IsLowest (cs : List Constraint) (n : ℕ) (d : Option ℕ → Reached) : Type 0 where
  pub holds : (c : Constraint) → Contains cs c → low_of (values_in d) c ≤ high_of (values_in d) c
  pub above : (u : ℕ) → u < n → (d None).value ≤ (d (Some u)).value
  pub forced : (u : ℕ) → u < n → IsForced cs n d u (d (Some u)).cause
