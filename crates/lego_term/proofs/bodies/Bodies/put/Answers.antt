use Rattle.std.proofs.Common.{ap, ◌∙◌}
use Rattle.std.specs.FinMap as map
use Rattle.lego_term.proofs.BodyLemmas.{put_changes}
use Rattle.lego_term.proofs.bodies.Bodies.put.Goals as goal

pub returns-in-Ok-clause-ok : goal.returns-in-Ok-clause-ok
returns-in-Ok-clause-ok c =
    put_changes c.self.inside.terms c.insert.new.self c.args.number c.in_ok-body.body c.in-Ok.ensures.updates.0
    ∙ (ap (λ m. map.insert m c.args.number c.in_ok-body.body) c.self.view_is
    ∙ ap (map.insert c.args.self.now c.args.number) c.in_ok-body.ensures.same)
