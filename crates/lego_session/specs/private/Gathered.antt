-- What is gathered before it is sent.
use Rattle.std.specs.Prelude.{◌≡◌, ℕ, List, ◌++◌, Option}
use Rattle.std.specs.Io.KnownBytes.{Appends}
use Rattle.lego_base.specs.Causes.{Rose}
use Rattle.lego_session.specs.declared.status.Status.{Status}
use Rattle.lego_session.specs.declared.status.Status.TheVariants.{WriteFault, Memory}

-- of a text the first bytes were taken, and the others are gathered
pub record Gathers (taken taken' : Option (List ℕ)) (gathered text : List ℕ) : Type 0 where
  pub sent : List ℕ
  pub parts : text ≡ sent ++ gathered
  pub written : Appends taken taken' sent

-- a write failed, where the sink's count rose, or memory ran out, where it stayed
abbrev pub HasFailed : (before now : ℕ) → Status → Type 0
HasFailed before now WriteFault = Rose before now
HasFailed before now Memory = now ≡ before
HasFailed before now _ = ⊥
