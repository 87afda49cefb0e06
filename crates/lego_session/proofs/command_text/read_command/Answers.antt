use Rattle.std.proofs.Common.{inr, refl, arith}
use Rattle.lego_session.specs.Answers.{IsUnread}
use Rattle.lego_session.proofs.CommandLemmas.{not_lexed_unread}
use Rattle.lego_session.proofs.command_text.read_command.Goals as goal

pub returns-then-bytes-gt-MAX_COMMAND-clause-unread : goal.returns-then-bytes-gt-MAX_COMMAND-clause-unread
returns-then-bytes-gt-MAX_COMMAND-clause-unread c = inr (IsUnread.long refl c.if-bytes-gt-MAX_COMMAND.true)

pub returns-in-Err-clause-unread : goal.returns-in-Err-clause-unread
returns-in-Err-clause-unread c =
    not_lexed_unread c.args.names.now c.args.place c.args.bytes.now c.in-Err.fault _ _ (let g = c.if-bytes-gt-MAX_COMMAND.false in omega (arith, g))
    c.in-Err.ensures.refused c.not_lexed.ensures.place c.not_lexed.ensures.cause
