-- One step taken back.
use Rattle.std.specs.Prelude.{◌≡◌, ℕ, List, [], ◌∷◌, ◌++◌, length}
use Rattle.lego_undo.specs.Histories.{before, origin, GoesWith}
use Rattle.lego_undo.specs.declared.state.State.{State}
use Rattle.lego_undo.specs.declared.change.Change.{Change}

pub record UndoesLast (changes : List Change) (old : State) (after : List Change) (new : State) : Type 0 where
  pub change : Change
  pub last : changes ≡ after ++ change ∷ []
  pub is : new ≡ before change old
  pub goes : GoesWith after new

-- so many steps taken back, with the changes that they were
pub record Undone (changes : List Change) (old : State) (n : ℕ) (after : List Change) (new : State) : Type 0 where
  pub dropped : List Change
  pub joins : changes ≡ after ++ dropped
  pub many : length dropped ≡ n
  pub is : new ≡ origin dropped old
  pub goes : GoesWith after new
