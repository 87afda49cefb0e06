use Rattle.std.proofs.Common.{◌≡◌, ℕ, drop, IfOk, sym, ◌∙◌, ap, subst}
use Rattle.lego_words.specs.Words.{IsUsage, texts}
use Rattle.lego.specs.Program.{EndsRun}
use Rattle.lego.proofs.exit_status.Goals as goal

pub returns-in-Ok-clause-ran : goal.returns-in-Ok-clause-ran
returns-in-Ok-clause-ran g c =
    subst (λ r. IfOk r (λ all. EndsRun (texts (drop 1 all.items)) (g.S.Source.left c.args.script.now) (g.S.Source.left c.run.new.script) (g.S.Source.faults c.args.script.now) (g.S.Source.faults c.run.new.script) (g.K.Sink.taken c.args.out.now) (g.K.Sink.taken c.run.new.out) (g.K.Sink.faults c.args.out.now) (g.K.Sink.faults c.run.new.out) c.code.result)) (sym c.in-Ok.is)
    (subst (λ ws. EndsRun (texts ws) (g.S.Source.left c.args.script.now) (g.S.Source.left c.run.new.script) (g.S.Source.faults c.args.script.now) (g.S.Source.faults c.run.new.script) (g.K.Sink.taken c.args.out.now) (g.K.Sink.taken c.run.new.out) (g.K.Sink.faults c.args.out.now) (g.K.Sink.faults c.run.new.out) c.code.result)
    (c.behind_name.ensures ∙ ap (drop 1) c.deref.ensures.value)
    (record {
      status = c.run.result;
      is_number = c.code.ensures;
      output = c.run.ensures.output;
      usage = c.run.ensures.usage;
      read_fault = c.run.ensures.read;
      write_fault = c.run.ensures.write;
      source_kept = c.run.ensures.source;
      sink_kept = c.run.ensures.sink;
      complete = c.run.ensures.complete;
    }))

pub returns-in-Ok-clause-untouched : goal.returns-in-Ok-clause-untouched
returns-in-Ok-clause-untouched g c =
    subst (λ r. IfOk r (λ all. (index : ℕ) → IsUsage (texts (drop 1 all.items)) index → c.run.new.script ≡ c.args.script.now)) (sym c.in-Ok.is)
    (subst (λ ws. (index : ℕ) → IsUsage (texts ws) index → c.run.new.script ≡ c.args.script.now)
    (c.behind_name.ensures ∙ ap (drop 1) c.deref.ensures.value) c.run.ensures.untouched)
