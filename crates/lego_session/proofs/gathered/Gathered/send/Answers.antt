use Rattle.std.proofs.Common.{subst}
use Rattle.std.specs.Io.KnownBytes.{Appends}
use Rattle.lego_base.specs.Bytes.{AppendsFront}
use Rattle.lego_session.proofs.GatheredLemmas.{gathers_sent, gathers_cut}
use Rattle.lego_session.proofs.gathered.Gathered.send.Goals as goal

pub returns-in-Ok-clause-ok : goal.returns-in-Ok-clause-ok
returns-in-Ok-clause-ok g c = λ start text h.
    gathers_sent start (g.K.Sink.taken c.args.out.now) c.args.self.now.text.items text h (g.K.Sink.taken c.send.new.sink)
    (subst (Appends (g.K.Sink.taken c.args.out.now) (g.K.Sink.taken c.send.new.sink)) c.as_slice.ensures.value c.in-Ok.ensures.all) c.clear.new.self.items c.clear.ensures.items

pub returns-in-Err-clause-err : goal.returns-in-Err-clause-err
returns-in-Err-clause-err g c = λ start text h.
    gathers_cut start (g.K.Sink.taken c.args.out.now) c.args.self.now.text.items text h (g.K.Sink.taken c.send.new.sink)
    (subst (AppendsFront (g.K.Sink.taken c.args.out.now) (g.K.Sink.taken c.send.new.sink)) c.as_slice.ensures.value c.in-Err.ensures.front)
