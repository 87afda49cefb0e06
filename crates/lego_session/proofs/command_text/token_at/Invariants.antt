use Rattle.lego_session.specs.private.Unread.{FirstStandElsewhere}
use Rattle.lego_session.proofs.command_text.token_at.Given as goal

-- the tokens so far stand elsewhere
abbrev pub invariant-loop-i : goal.invariant-loop-i
invariant-loop-i l = FirstStandElsewhere l.tokens l.place l.i
