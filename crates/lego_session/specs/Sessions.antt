-- Sessions: the present state and the history; and how a command moves them.
use Rattle.std.specs.Prelude.{◌≡◌, ℕ, suc, List, [], ◌∷◌, ◌++◌, length}
use Rattle.std.specs.List.{AllByRecursion}
use Rattle.lego_inference.specs.declared.entry.Entry.{Entry as Item}
use Rattle.lego_context.specs.Contexts.{Contents, empty}
use Rattle.lego_undo.specs.declared.state.State.{State}

-- the present state, and the old states, the oldest first
pub record Session : Type 0 where
  pub now : State
  pub history : List State

-- the empty context, and an empty history
abbrev pub empty_session : Session
empty_session = record { now = record { context = empty }; history = [] }

-- the context of the present state, and its entries
abbrev pub context_of : Session → Contents
context_of s = s.now.context

abbrev pub entries_of : Session → List Item
entries_of s = (context_of s).entries

-- A command that counts for Undo: the session has this context, and the old state goes to the history's end.
abbrev pub moved_to : Session → Contents → Session
moved_to old context = record { now = record { context = context }; history = old.history ++ old.now ∷ [] }

-- the last n steps are undone: the state before them is back, and they leave the history
pub data Undoes (old : Session) : ℕ → Session → Type 0 where
  nothing : Undoes old 0 old
  steps : {kept : List State} (dropped : List State) {back : State}
      → old.history ≡ kept ++ back ∷ dropped → Undoes old (suc (length dropped)) (record { now = back; history = kept })

-- the context of the present state has the property, and so have those of the history's states
pub record HoldsThroughout (P : Contents → Type 0) (s : Session) : Type 0 where
  pub now : P (context_of s)
  pub before : AllByRecursion (λ state. P state.context) s.history
