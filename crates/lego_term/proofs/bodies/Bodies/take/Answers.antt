use Rattle.std.proofs.Common.{ap, sym, ◌∙◌}
use Rattle.std.specs.FinMap as map
use Rattle.lego_term.proofs.BodyLemmas.{get-bodies, take_changes}
use Rattle.lego_term.proofs.bodies.Bodies.take.Goals as goal

pub returns-clause-value : goal.returns-clause-value
returns-clause-value c =
    c.remove.ensures.value ∙ (sym (get-bodies c.self.inside.terms c.args.number) ∙ ap (λ m. map.get m c.args.number) c.self.view_is)

pub returns-clause-rest : goal.returns-clause-rest
returns-clause-rest c =
    take_changes c.self.inside.terms c.remove.new.self c.args.number c.remove.ensures.updates.0 ∙ ap (λ m. map.remove m c.args.number) c.self.view_is
