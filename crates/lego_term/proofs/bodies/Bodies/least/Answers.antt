use Rattle.std.proofs.Common.{ap, sym, ◌∙◌}
use Rattle.std.specs.FinMap as map
use Rattle.lego_term.proofs.BodyLemmas.{get-bodies}
use Rattle.lego_term.proofs.bodies.Bodies.least.Goals as goal

pub returns : goal.returns
returns c = λ k lt. ap (λ m. map.get m k) (sym c.self.view_is) ∙ (get-bodies c.self.inside.terms k ∙ c.self.invariant k lt)
