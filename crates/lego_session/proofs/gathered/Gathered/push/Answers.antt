use Rattle.lego_session.proofs.GatheredLemmas.{gathers_front, front_of_longer}
use Rattle.lego_session.proofs.gathered.Gathered.push.Goals as goal

pub returns-then-is_err-clause-err : goal.returns-then-is_err-clause-err
returns-then-is_err-clause-err g c = λ start text h.
    front_of_longer start (g.K.Sink.taken c.args.out.now) text c.args.bytes.now
    (gathers_front start (g.K.Sink.taken c.args.out.now) c.args.self.now.text.items text h)
