-- Which change a step is noted as, and what undoing steps leaves.
use Rattle.std.specs.Prelude.{◌≡◌, ℕ, ◌-◌, ◌≤◌, ◌<◌, List, [], ◌∷◌, ◌++◌, length, take, slice_get, Some}
use Rattle.lego_undo.specs.Histories.{old_states, GoesWith, extent_of, front}
use Rattle.lego_undo.specs.declared.state.State.{State}
use Rattle.lego_undo.specs.declared.change.Change.{Change}
use Rattle.lego_undo.specs.declared.change.Change.TheVariants.{Cut, Whole}
use Rattle.lego_undo.specs.declared.undo_fault.UndoFault.{UndoFault}
use Rattle.lego_undo.specs.declared.undo_fault.UndoFault.TheVariants.{TooFar}

-- the old state is so much of the new one as its extent says
pub record IsFrontOf (old new : State) : Type 0 where
  pub is : front (extent_of old) new ≡ old
  pub levels : old.context.levels ≤ new.context.levels

-- a cut where that serves, and else the whole old state
pub data IsChange (old new : State) : Change → Type 0 where
  cut : IsFrontOf old new → IsChange old new (Cut (extent_of old))
  whole : (IsFrontOf old new → ⊥) → IsChange old new (Whole old)

-- The history with one more step: it has one more change, and gives, with the new state, what it gave with the old one, and
-- then the old one.
pub record Notes (changes : List Change) (old new : State) (after : List Change) : Type 0 where
  pub change : Change
  pub last : after ≡ changes ++ change ∷ []
  pub which : IsChange old new change
  pub states : old_states after new ≡ old_states changes old ++ old ∷ []
  pub goes : GoesWith after new

-- the last n steps are undone
pub record Undoes (changes : List Change) (old : State) (n : ℕ) (after : List Change) (new : State) : Type 0 where
  pub few : n ≤ length changes
  pub kept : after ≡ take (length changes - n) changes
  pub states : old_states after new ≡ take (length changes - n) (old_states changes old)
  pub nothing : n ≡ 0 → new ≡ old
  pub last : 0 < n → slice_get (old_states changes old) (length changes - n) ≡ Some new
  pub goes : GoesWith after new

abbrev pub IsTooFar : List Change → ℕ → UndoFault → Type 0
IsTooFar changes n (TooFar asked held) = (length changes < n) × (asked ≡ n) × (held ≡ length changes)
