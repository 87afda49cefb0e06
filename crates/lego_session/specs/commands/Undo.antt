-- The effect of `Undo n`, and why it is refused.
use Rattle.std.specs.Prelude.{◌≡◌, ℕ, ◌<◌, List, ◌++◌, length, codes, decimal}
use Rattle.lego_session.specs.Sessions.{Session, Undoes}
use Rattle.lego_session.specs.declared.refusal.Cause.{Cause}
use Rattle.lego_session.specs.declared.refusal.Cause.TheVariants.{TooFar}

-- the session before the last n steps is back, and the answer is `undone n`
pub record TakesBack (old : Session) (n : ℕ) (text : List ℕ) (new : Session) : Type 0 where
  pub undoes : Undoes old n new
  pub is_text : text ≡ codes "undone " ++ decimal n ++ codes "\n"

-- more steps are asked for than are held
pub record IsTooFar (old : Session) (n : ℕ) (cause : Cause) : Type 0 where
  pub more : length old.history < n
  pub is_cause : cause ≡ TooFar n (length old.history)
