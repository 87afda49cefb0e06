use Rattle.std.proofs.Common.{◌++◌, ◌∙◌, codes, decimal, subst}
use Rattle.std.proofs.KnownBytes.{Appends-trans}
use Rattle.std.specs.Io.KnownBytes.{Appends}
use Rattle.lego_base.specs.Bytes.{AppendsFront}
use Rattle.lego_session.proofs.GatheredLemmas.{front_of_longer, front_behind, on_err, on_err-map}
use Rattle.lego_session.proofs.running.send_usage.Goals as goal

pub returns-in_err-send-clause-front : goal.returns-in_err-send-clause-front
returns-in_err-send-clause-front g c =
    on_err c.from_residual.result
    (front_of_longer (g.K.Sink.taken c.args.out.now) (g.K.Sink.taken c.send.new.sink) (codes "usage ") (decimal c.args.index ++ codes "\n") c.in_err-send.ensures.front)

pub returns-in_err-send-2-clause-front : goal.returns-in_err-send-2-clause-front
returns-in_err-send-2-clause-front g c =
    let t = g.K.Sink.taken c.args.out.now in
    let t1 = g.K.Sink.taken c.send.new.sink in
    let t2 = g.K.Sink.taken c.send-2.new.sink in
    let digits = subst (AppendsFront t1 t2) (c.as_bytes.ensures.value ∙ c.format.ensures.text) c.in_err-send-2.ensures.front in
    on_err c.from_residual-in_err-send-2.result
    (front_of_longer t t2 (codes "usage " ++ decimal c.args.index) (codes "\n") (front_behind t t1 t2 (codes "usage ") (decimal c.args.index) c.in_ok-send.ensures.all digits))

pub returns-clause-front : goal.returns-clause-front
returns-clause-front g c =
    let t = g.K.Sink.taken c.args.out.now in
    let t1 = g.K.Sink.taken c.send.new.sink in
    let t2 = g.K.Sink.taken c.send-2.new.sink in
    let t3 = g.K.Sink.taken c.send-3.new.sink in
    let digits = subst (Appends t1 t2) (c.as_bytes.ensures.value ∙ c.format.ensures.text) c.in_ok-send-2.ensures.all in
    on_err-map c.send-3.result
    (λ f. front_behind t t2 t3 (codes "usage " ++ decimal c.args.index) (codes "\n") (Appends-trans t t1 t2 (codes "usage ") (decimal c.args.index) c.in_ok-send.ensures.all digits) f)
    c.send-3.ensures.front
