use Rattle.std.proofs.Common.{◌∙◌, arith}
use Rattle.lego_term.specs.BodyMap.{bodies_in}
use Rattle.lego_term.proofs.OverLemmas.{at_most}
use Rattle.lego_term.proofs.BoundLemmas.{replace-low}
use Rattle.lego_term.proofs.ConstantLemmas.{replace-under}
use Rattle.lego_term.proofs.constants.ReplacedLeaves.keeps.Goals as goal

pub returns : goal.returns
returns c = λ e.
    let bodies = bodies_in c.args.self.now.bodies.now in
    replace-under bodies c.args.arg3 c.args.t.now ∙ replace-low bodies c.least.result c.args.t.now (omega (arith, at_most _ _ e)) c.least.ensures
