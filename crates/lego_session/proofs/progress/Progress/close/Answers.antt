use Rattle.std.proofs.Common.{◌++◌, ◌∙◌, []}
use Rattle.lego_session.specs.private.Pending.{ending_of}
use Rattle.lego_session.proofs.ClosingLemmas.{cut_at_once, cut_refusal, gathered_refusal, cut_development, closed}
use Rattle.lego_session.proofs.GatheredLemmas.{gathers_none, on_ok-both, on_err, on_err-map}
use Rattle.lego_session.proofs.progress.Progress.close.Goals as goal

pub returns-in_default-clause-err : goal.returns-in_default-clause-err
returns-in_default-clause-err g c =
    let p = c.args.self.now in
    cut_at_once p.options.stop p.names p.session (ending_of c.args.rest) (g.K.Sink.taken c.args.out.now)

pub returns-in_err-push-clause-err : goal.returns-in_err-push-clause-err
returns-in_err-push-clause-err g c =
    let p = c.args.self.now in
    let t = g.K.Sink.taken c.args.out.now in
    on_err c.from_residual.result
    (cut_refusal p.options.stop p.names p.session (ending_of c.args.rest) c.as_slice.result.now (c.as_slice.ensures.value ∙ c.in-Ok.ensures p.session) t (g.K.Sink.taken c.push.new.out)
    (c.in_err-push.ensures.err t [] (gathers_none t _ c.requires.sent)))

pub returns-in_default-developed-clause-err : goal.returns-in_default-developed-clause-err
returns-in_default-developed-clause-err g c =
    let p = c.args.self.now in
    let t = g.K.Sink.taken c.args.out.now in
    gathered_refusal p.options.stop p.names p.session (ending_of c.args.rest) c.as_slice.result.now (c.as_slice.ensures.value ∙ c.in-Ok.ensures p.session) t (g.K.Sink.taken c.push.new.out)
    _ (c.in_ok-push.ensures.ok t [] (gathers_none t _ c.requires.sent))

pub returns-in_err-push-2-clause-err : goal.returns-in_err-push-2-clause-err
returns-in_err-push-2-clause-err g c =
    let p = c.args.self.now in
    let t = g.K.Sink.taken c.args.out.now in
    on_err c.from_residual-in_err-push-2.result
    (cut_development p.options.stop p.names p.session (ending_of c.args.rest) c.as_slice.result.now (c.as_slice.ensures.value ∙ c.in-Ok.ensures p.session) t (g.K.Sink.taken c.push-2.new.out)
    c.as_slice-2.result.now _ c.as_slice-2.ensures.value c.in-Ok-developed.ensures.developed
    (c.in_err-push-2.ensures.err t c.as_slice.result.now (c.in_ok-push.ensures.ok t [] (gathers_none t _ c.requires.sent))))

pub returns-clause-ok : goal.returns-clause-ok
returns-clause-ok g c =
    let p = c.args.self.now in
    let t = g.K.Sink.taken c.args.out.now in
    on_ok-both c.send.result
    (λ sent none.
    closed p.options.stop p.names p.session (ending_of c.args.rest) c.as_slice.result.now (c.as_slice.ensures.value ∙ c.in-Ok.ensures p.session) t (g.K.Sink.taken c.send.new.out)
    c.as_slice-2.result.now _ c.as_slice-2.ensures.value c.in-Ok-developed.ensures.developed c.in-Ok-developed.ensures.headline _ none
    (sent t (c.as_slice.result.now ++ c.as_slice-2.result.now) (c.in_ok-push-2.ensures.ok t c.as_slice.result.now (c.in_ok-push.ensures.ok t [] (gathers_none t _ c.requires.sent)))))
    c.send.ensures.ok c.send.ensures.none

pub returns-clause-err : goal.returns-clause-err
returns-clause-err g c =
    let p = c.args.self.now in
    let t = g.K.Sink.taken c.args.out.now in
    on_err-map c.send.result
    (λ cut.
    cut_development p.options.stop p.names p.session (ending_of c.args.rest) c.as_slice.result.now (c.as_slice.ensures.value ∙ c.in-Ok.ensures p.session) t (g.K.Sink.taken c.send.new.out)
    c.as_slice-2.result.now _ c.as_slice-2.ensures.value c.in-Ok-developed.ensures.developed
    (cut t (c.as_slice.result.now ++ c.as_slice-2.result.now) (c.in_ok-push-2.ensures.ok t c.as_slice.result.now (c.in_ok-push.ensures.ok t [] (gathers_none t _ c.requires.sent)))))
    c.send.ensures.err
