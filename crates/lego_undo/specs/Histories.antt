-- What a history gives with the present state: the old states, the oldest first.
use Rattle.std.specs.Prelude.{List, [], ◌∷◌, length}
use Rattle.lego_context.specs.Cutting.{CanBeCut, cut_of}
use Rattle.lego_undo.specs.declared.state.State.{State}
use Rattle.lego_undo.specs.declared.change.Extent.{Extent}
use Rattle.lego_undo.specs.declared.change.Change.{Change}
use Rattle.lego_undo.specs.declared.change.Change.TheVariants.{Cut, Whole}

-- how much of a state there is
abbrev pub extent_of : State → Extent
extent_of state = record { entries = length state.context.entries; universes = length state.context.universes; levels = state.context.levels }

-- the state has so much that stands by itself
abbrev pub HasExtent : Extent → State → Type 0
HasExtent extent state = CanBeCut state.context extent.entries extent.universes extent.levels

-- so much of the state
abbrev pub front : Extent → State → State
front extent state = record { context = cut_of state.context extent.entries extent.universes extent.levels }

-- the state before a change, from the state behind it
abbrev pub before : Change → State → State
before (Cut extent) state = front extent state
before (Whole old) state = old

-- the state before all of these changes, from the state behind them
abbrev pub origin : List Change → State → State
origin [] state = state
origin (change ∷ changes) state = before change (origin changes state)

-- the states before each of the changes, from the state behind them all
abbrev pub old_states : List Change → State → List State
old_states [] state = []
old_states (change ∷ changes) state = origin (change ∷ changes) state ∷ old_states changes state

-- the change finds what it needs in the state behind it
abbrev pub Fits : Change → State → Type 0
Fits (Cut extent) state = HasExtent extent state
Fits (Whole old) state = Unit {0}

-- each change, applied from the last to the first, finds what it needs
abbrev pub GoesWith : List Change → State → Type 0
GoesWith [] state = Unit {0}
GoesWith (change ∷ changes) state = Fits change (origin changes state) × GoesWith changes state
