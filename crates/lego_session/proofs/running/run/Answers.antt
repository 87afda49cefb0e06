use Rattle.std.proofs.Common.{subst}
use Rattle.lego_words.specs.Words.{texts}
use Rattle.lego_words.specs.Faults.{IsFault}
use Rattle.lego_words.specs.declared.options.Options.{Options}
use Rattle.lego_session.specs.Outcomes.{Outcome, UsageOutcome}
use Rattle.lego_session.proofs.OutcomeLemmas.{complete, nothing_done}
use Rattle.lego_session.proofs.running.run.Goals as goal

pub returns-in-Ok-clause-output : goal.returns-in-Ok-clause-output
returns-in-Ok-clause-output g c = λ asked written.
    subst (λ (o : Options). Outcome o.steps o.stop (g.S.Source.left c.args.script.now) (g.S.Source.left c.run_script.new.script) (g.K.Sink.taken c.args.out.now) (g.K.Sink.taken c.run_script.new.out) c.run_script.result)
    (c.one_meaning.ensures (texts c.args.words.now) c.in-Ok.options asked c.in-Ok.ensures.ok written) c.run_script.ensures.output

pub returns-in-Ok-clause-complete : goal.returns-in-Ok-clause-complete
returns-in-Ok-clause-complete g c = λ asked written acceptable source sink.
    complete asked.steps asked.stop (g.S.Source.left c.args.script.now) (g.S.Source.left c.run_script.new.script) (g.K.Sink.taken c.args.out.now) (g.K.Sink.taken c.run_script.new.out) acceptable
    _ _ _ _ c.run_script.result (returns-in-Ok-clause-output g c asked written) c.run_script.ensures.read c.run_script.ensures.write source sink

pub returns-in-Usage-clause-usage : goal.returns-in-Usage-clause-usage
returns-in-Usage-clause-usage g c = λ index usage.
    let here = subst (IsFault (texts c.args.words.now)) c.in-Usage.is c.in-Err.ensures.cause in
    subst (λ n. UsageOutcome n (g.K.Sink.taken c.args.out.now) (g.K.Sink.taken c.refuse_words.new.out) c.refuse_words.result)
    (c.one_usage.ensures (texts c.args.words.now) c.in-Usage.index index here usage) c.refuse_words.ensures.output

pub returns-in-Memory-clause-output : goal.returns-in-Memory-clause-output
returns-in-Memory-clause-output g c = λ asked written.
    nothing_done asked.steps asked.stop (g.S.Source.left c.args.script.now) (g.K.Sink.taken c.args.out.now)
