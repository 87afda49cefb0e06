use Rattle.std.proofs.Common.{◌-◌, ◌∙◌, ap, arith, subst, length, min, take}
use Rattle.lego_session.specs.private.Pending.{ending_of}
use Rattle.lego_session.specs.private.Progress.{IsFlow}
use Rattle.lego_session.specs.declared.progress.Flow.{Flow}
use Rattle.lego_session.proofs.ProgressLemmas.{pass_cut, pass_cut_sending, pass_stops, pass_overlong, pass_on}
use Rattle.lego_session.proofs.progress.Progress.pass.Goals as goal

pub returns-in-Err-clause-err : goal.returns-in-Err-clause-err
returns-in-Err-clause-err g c = λ read answers h.
    let t = g.K.Sink.taken c.args.out.now in
    let t1 = g.K.Sink.taken c.answer_piece.new.out in
    let count = c.min.ensures ∙ ap (λ n. min (length c.args.piece.now) n) (c.saturating_sub-room.ensures ∙ ap (λ n. 16777216 - n) c.fed.ensures) in
    pass_cut c.args.self.now c.answer_piece.new.self c.answer_piece.ensures.asked c.args.piece.now c.min.result t t1 t1 read answers h c.requires.few count
    _ _ c.in-Err.status c.in-Err.ensures.cause (c.in-Err.ensures.err read answers h)

pub returns-in-Err-send-clause-err : goal.returns-in-Err-send-clause-err
returns-in-Err-send-clause-err g c = λ read answers h.
    let t = g.K.Sink.taken c.args.out.now in
    let t1 = g.K.Sink.taken c.answer_piece.new.out in
    let t2 = g.K.Sink.taken c.send.new.out in
    let count = c.min.ensures ∙ ap (λ n. min (length c.args.piece.now) n) (c.saturating_sub-room.ensures ∙ ap (λ n. 16777216 - n) c.fed.ensures) in
    pass_cut_sending c.args.self.now c.answer_piece.new.self c.answer_piece.ensures.asked c.args.piece.now c.min.result t t1 t2 read answers h c.requires.few count
    c.answer_piece.new.gathered.text.items c.in-Ok.flow (c.in-Ok.ensures.ok read answers h) c.in-Err-send.ensures.err _ _ c.in-Err-send.status c.in-Err-send.ensures.cause

pub returns-in-Stops-clause-err : goal.returns-in-Stops-clause-err
returns-in-Stops-clause-err g c = λ read answers h.
    let t = g.K.Sink.taken c.args.out.now in
    let t1 = g.K.Sink.taken c.answer_piece.new.out in
    let t2 = g.K.Sink.taken c.send.new.out in
    let count = c.min.ensures ∙ ap (λ n. min (length c.args.piece.now) n) (c.saturating_sub-room.ensures ∙ ap (λ n. 16777216 - n) c.fed.ensures) in
    let flow = subst (λ (f : Flow). IsFlow c.answer_piece.new.self read answers (take c.min.result c.args.piece.now) c.answer_piece.new.gathered.text.items t t1 f) c.in-Stops.is (c.in-Ok.ensures.ok read answers h) in
    pass_stops c.args.self.now c.answer_piece.new.self c.answer_piece.ensures.asked c.args.piece.now c.min.result t t1 t2 read answers h c.requires.few count
    c.answer_piece.new.gathered.text.items c.send.new.self.text.items c.in_default.ensures.none c.in_default.ensures.ok flow

pub returns-then-within-piece-clause-err : goal.returns-then-within-piece-clause-err
returns-then-within-piece-clause-err g c = λ read answers h.
    let t = g.K.Sink.taken c.args.out.now in
    let t1 = g.K.Sink.taken c.answer_piece.new.out in
    let t2 = g.K.Sink.taken c.send.new.out in
    let count = c.min.ensures ∙ ap (λ n. min (length c.args.piece.now) n) (c.saturating_sub-room.ensures ∙ ap (λ n. 16777216 - n) c.fed.ensures) in
    let flow = subst (λ (f : Flow). IsFlow c.answer_piece.new.self read answers (take c.min.result c.args.piece.now) c.answer_piece.new.gathered.text.items t t1 f) c.in-GoesOn.is (c.in-Ok.ensures.ok read answers h) in
    pass_overlong c.args.self.now c.answer_piece.new.self c.answer_piece.ensures.asked c.args.piece.now c.min.result t t1 t2 read answers h c.requires.few count
    c.answer_piece.new.gathered.text.items c.send.new.self.text.items c.in_default.ensures.none c.in_default.ensures.ok flow (omega (arith, c.if-within-piece.true))
    (ending_of c.rest-rest.result) c.rest-rest.ensures

pub returns-else-within-piece-clause-ok : goal.returns-else-within-piece-clause-ok
returns-else-within-piece-clause-ok g c = λ read answers h.
    let t = g.K.Sink.taken c.args.out.now in
    let t1 = g.K.Sink.taken c.answer_piece.new.out in
    let t2 = g.K.Sink.taken c.send.new.out in
    let count = c.min.ensures ∙ ap (λ n. min (length c.args.piece.now) n) (c.saturating_sub-room.ensures ∙ ap (λ n. 16777216 - n) c.fed.ensures) in
    let flow = subst (λ (f : Flow). IsFlow c.answer_piece.new.self read answers (take c.min.result c.args.piece.now) c.answer_piece.new.gathered.text.items t t1 f) c.in-GoesOn.is (c.in-Ok.ensures.ok read answers h) in
    pass_on c.args.self.now c.answer_piece.new.self c.answer_piece.ensures.asked c.args.piece.now c.min.result t t1 t2 read answers h c.requires.few count
    c.answer_piece.new.gathered.text.items c.send.new.self.text.items c.in_default.ensures.none c.in_default.ensures.ok flow (omega (arith, c.if-within-piece.false))
