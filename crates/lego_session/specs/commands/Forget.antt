-- The effect of `Forget x`, and why it is refused.
use Rattle.std.specs.Prelude.{◌≡◌, ℕ, ◌-◌, List, ◌++◌, length, Some, None, codes, decimal}
use Rattle.lego_context.specs.Entries.{position_of}
use Rattle.lego_context.specs.Forgetting.{front_of}
use Rattle.lego_session.specs.Sessions.{Session, context_of, entries_of, moved_to}
use Rattle.lego_session.specs.declared.refusal.Cause.{Cause}
use Rattle.lego_session.specs.declared.refusal.Cause.TheVariants.{UnknownName}

-- the session moves to the entries before the named one, and the answer is `forgot` and how many went
pub record Forgets (old : Session) (name : ℕ) (text : List ℕ) (new : Session) : Type 0 where
  pub at : ℕ
  pub there : position_of (entries_of old) name ≡ Some at
  pub moves : new ≡ moved_to old (front_of (context_of old) at)
  pub is_text : text ≡ codes "forgot " ++ decimal (length (entries_of old) - at) ++ codes "\n"

-- no entry has the name
pub record IsUnknown (old : Session) (name : ℕ) (cause : Cause) : Type 0 where
  pub none : position_of (entries_of old) name ≡ None
  pub is_cause : cause ≡ UnknownName name
