use Rattle.std.proofs.Common.{ap, sym, ◌∙◌}
use Rattle.std.specs.FinMap as map
use Rattle.lego_term.proofs.BodyLemmas.{get-bodies}
use Rattle.lego_term.proofs.bodies.Bodies.get.Goals as goal

pub returns : goal.returns
returns c =
    c.get.ensures.value ∙ (sym (get-bodies c.self.inside.terms c.args.number) ∙ ap (λ m. map.get m c.args.number) c.self.view_is)
