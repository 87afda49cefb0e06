-- The session that its parts are, and what holds of them.
use Rattle.lego_context.specs.Entries.{HasNoHole}
use Rattle.lego_undo.specs.Histories.{old_states, GoesWith}
use Rattle.lego_session.specs.Sessions.{Session, HoldsThroughout}
use Rattle.lego_session.specs.declared.parts.Parts.{Parts}

abbrev pub session_of : Parts → Session
session_of p = record { now = p.state; history = old_states p.history p.state }

-- no context of the session has a hole
abbrev pub HasNoHoles : Session → Type 0
HasNoHoles s = HoldsThroughout (λ c. HasNoHole c.entries) s

-- the history goes with the state, and no context has a hole
pub record AreParts (p : Parts) : Type 0 where
  pub goes : GoesWith p.history p.state
  pub no_holes : HasNoHoles (session_of p)
