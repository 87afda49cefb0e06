use Rattle.lego_grammar.specs.Surface.{written_command}
use Rattle.lego_session.proofs.AnswerLemmas.{step_written}
use Rattle.lego_session.proofs.answers.run_command.Goals as goal

pub returns-clause-answered : goal.returns-clause-answered
returns-clause-answered c =
    step_written c.args.names.now c.args.limit c.args.session.now c.step-outcome.new.self (written_command c.args.command) c.step-outcome.result c.written.result
    c.step-outcome.ensures.ok c.step-outcome.ensures.cause c.step-outcome.ensures.err c.written.ensures
