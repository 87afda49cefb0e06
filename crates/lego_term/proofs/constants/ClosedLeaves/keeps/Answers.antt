use Rattle.std.proofs.Common.{arith}
use Rattle.lego_term.proofs.OverLemmas.{at_most}
use Rattle.lego_term.proofs.BoundLemmas.{close-low}
use Rattle.lego_term.proofs.constants.ClosedLeaves.keeps.Goals as goal

pub returns-then-loose-under : goal.returns-then-loose-under
returns-then-loose-under c = λ e.
    close-low c.args.self.now.numbers.now c.args.self.now.least c.args.under c.args.t.now (omega arith) (omega (arith, at_most _ _ e)) c.requires.1
