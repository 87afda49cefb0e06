use Rattle.std.proofs.Common.{◌≡◌, ◌∙◌, refl, take, arith, subst, length-take, length-append}
use Rattle.std.specs.Io.KnownBytes.{Consumes}
use Rattle.lego_session.specs.private.Pending.{ending_of}
use Rattle.lego_session.specs.private.Progress.{IsEnded}
use Rattle.lego_session.proofs.OutcomeLemmas.{underway_first, broken, finished, not_counted, ended, passed}
use Rattle.lego_session.proofs.ProgressLemmas.{fed_is}
use Rattle.lego_session.proofs.running.run_script.Goals as goal

pub loop-count-init : goal.loop-count-init
loop-count-init g c = record {
  underway = underway_first c.args.options c.new-progress.result (g.S.Source.left c.args.script.now) (g.K.Sink.taken c.args.out.now) c.new-progress.ensures.asked c.new-progress.ensures.fresh;
  sent = c.new-gathered.ensures;
  source = refl;
  sink = refl;
}

pub returns-in_default-clause-output : goal.returns-in_default-clause-output
returns-in_default-clause-output g c =
    let u = c.loop-count.invariant.underway in
    broken c.args.options c.loop-count.progress (g.S.Source.left c.args.script.now) (g.S.Source.left c.loop-count.script) (g.K.Sink.taken c.args.out.now) (g.K.Sink.taken c.loop-count.out) u
    (ending_of c.rest-rest.result) (c.rest-rest.ensures u.read u.answers u.answered) (g.S.Source.left c.read.new.self) c.in_default.ensures.bytes

pub returns-then-count-eq0-clause-output : goal.returns-then-count-eq0-clause-output
returns-then-count-eq0-clause-output g c =
    let u = c.loop-count.invariant.underway in
    let none : c.in-Ok.count ≡ 0 = omega (arith, c.if-count-eq0.true) in
    let bytes = c.in-Ok.ensures.bytes in
    finished c.args.options c.loop-count.progress (g.S.Source.left c.args.script.now) (g.S.Source.left c.loop-count.script) (g.K.Sink.taken c.args.out.now) (g.K.Sink.taken c.loop-count.out) u
    (ending_of c.rest-rest.result) (c.rest-rest.ensures u.read u.answers u.answered) (g.S.Source.left c.read.new.self) (g.K.Sink.taken c.finish.new.out)
    (subst (λ n. Consumes (g.S.Source.left c.loop-count.script) (g.S.Source.left c.read.new.self) (take n c.read.new.into)) none bytes.0)
    (bytes.1 none (omega (arith, c.read.auto.into))) c.finish.result c.finish.ensures.finished

pub returns-then-count-eq0-clause-sink : goal.returns-then-count-eq0-clause-sink
returns-then-count-eq0-clause-sink g c = λ no_fault.
    not_counted (g.K.Sink.faults c.loop-count.out) (g.K.Sink.faults c.finish.new.out) c.finish.result c.finish.ensures.counted no_fault ∙ c.loop-count.invariant.sink

pub returns-in-Err-clause-output : goal.returns-in-Err-clause-output
returns-in-Err-clause-output g c =
    let u = c.loop-count.invariant.underway in
    ended c.args.options c.loop-count.progress (g.S.Source.left c.args.script.now) (g.S.Source.left c.loop-count.script) (g.K.Sink.taken c.args.out.now) (g.K.Sink.taken c.loop-count.out) u
    (ending_of c.rest-rest.result) (c.rest-rest.ensures u.read u.answers u.answered) (g.S.Source.left c.read.new.self) (g.K.Sink.taken c.pass.new.out)
    (take c.in-Ok.count c.read.new.into) c.in-Ok.ensures.bytes.0 (omega (arith, length-take c.in-Ok.count c.read.new.into, c.read.auto.into)) c.pass.new.self c.pass.ensures.asked
    c.in-Err.status (c.in-Err.ensures.err u.read u.answers u.answered)

pub returns-in-Err-clause-read : goal.returns-in-Err-clause-read
returns-in-Err-clause-read g c = λ is.
    let u = c.loop-count.invariant.underway in
    absurd (subst (IsEnded c.pass.new.self u.read u.answers (take c.in-Ok.count c.read.new.into) (g.K.Sink.taken c.loop-count.out) (g.K.Sink.taken c.pass.new.out)) is
    (c.in-Err.ensures.err u.read u.answers u.answered))

pub loop-count-smaller : goal.loop-count-smaller
loop-count-smaller g c =
    let u = c.loop-count.invariant.underway in
    let q = take c.in-Ok.count c.read.new.into in
    let h = c.in_default-pass.ensures.ok u.read u.answers u.answered in
    omega (arith, fed_is u.answered, fed_is h.answered, h.few, length-append u.read q, length-take c.in-Ok.count c.read.new.into, c.in-Ok.ensures.bound, c.if-count-eq0.false)

pub loop-count-preserved : goal.loop-count-preserved
loop-count-preserved g c =
    let u = c.loop-count.invariant.underway in
    let h = c.in_default-pass.ensures.ok u.read u.answers u.answered in
    record {
      underway =
          passed c.args.options c.loop-count.progress (g.S.Source.left c.args.script.now) (g.S.Source.left c.loop-count.script) (g.K.Sink.taken c.args.out.now) (g.K.Sink.taken c.loop-count.out) u
          (ending_of c.rest-rest.result) (c.rest-rest.ensures u.read u.answers u.answered) (g.S.Source.left c.read.new.self) (g.K.Sink.taken c.pass.new.out)
          (take c.in-Ok.count c.read.new.into) c.in-Ok.ensures.bytes.0 (omega (arith, length-take c.in-Ok.count c.read.new.into, c.read.auto.into)) c.pass.new.self c.pass.ensures.asked h;
      sent = c.in_default-pass.ensures.none;
      source = c.in-Ok.ensures.cause.kept ∙ c.loop-count.invariant.source;
      sink = c.in_default-pass.ensures.kept ∙ c.loop-count.invariant.sink;
    }
