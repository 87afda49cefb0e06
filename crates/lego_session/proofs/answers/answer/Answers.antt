use Rattle.std.proofs.Common.{arith}
use Rattle.lego_grammar.specs.Surface.{written_command}
use Rattle.lego_session.proofs.AnswerLemmas.{numbered, command_written, unread_written, run_known, unread_known}
use Rattle.lego_session.proofs.answers.answer.Goals as goal

pub returns-in-Ok-clause-answered : goal.returns-in-Ok-clause-answered
returns-in-Ok-clause-answered c =
    command_written c.args.limit c.args.names.now c.read_command-outcome.new.names c.args.session.now c.run_command.new.session
    (record { place = c.args.place; bytes = c.args.bytes.now }) (written_command c.in-Ok.command) c.run_command.result
    (numbered _ _ c.len-count.ensures.exact c.len-count.ensures.limit c.len-count.ensures.distinct)
    c.in-Ok.ensures.command c.in-Ok.ensures.built c.run_command.ensures.answered

pub returns-in-Ok-clause-still_known : goal.returns-in-Ok-clause-still_known
returns-in-Ok-clause-still_known c =
    run_known c.run_command.result c.in-Ok.ensures.command c.run_command.ensures.known c.requires.known

pub returns-in-Err-clause-answered : goal.returns-in-Err-clause-answered
returns-in-Err-clause-answered c =
    unread_written c.args.limit c.args.names.now c.read_command-outcome.new.names c.args.session.now (record { place = c.args.place; bytes = c.args.bytes.now })
    c.in-Err.unread.place c.in-Err.unread.cause _ c.written.result
    (numbered _ _ c.len-count.ensures.exact c.len-count.ensures.limit c.len-count.ensures.distinct) c.in-Err.ensures.unread c.refusal.ensures c.written.ensures

pub returns-in-Err-clause-still_known : goal.returns-in-Err-clause-still_known
returns-in-Err-clause-still_known c =
    unread_known {s = c.args.session.now} c.written.result _ c.in-Err.ensures.unread (omega (arith, c.len-held.ensures.exact, c.len-held.ensures.limit))
    c.refusal.ensures c.written.ensures c.requires.known
