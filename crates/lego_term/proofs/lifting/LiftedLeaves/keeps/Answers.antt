use Rattle.std.proofs.Common.{arith}
use Rattle.lego_term.proofs.OverLemmas.{at_most}
use Rattle.lego_term.proofs.LiftLemmas.{lift-low}
use Rattle.lego_term.proofs.lifting.LiftedLeaves.keeps.Goals as goal

pub returns : goal.returns
returns c = λ e. lift-low c.args.under c.args.self.now.by c.args.t.now (omega (arith, at_most _ _ e))
