use Rattle.std.proofs.Common.{arith}
use Rattle.lego_term.proofs.OverLemmas.{at_most}
use Rattle.lego_term.proofs.SubstLemmas.{put-low}
use Rattle.lego_term.proofs.substitution.SubstitutedLeaves.keeps.Goals as goal

pub returns : goal.returns
returns c = λ e. put-low c.args.under c.args.self.now.value.now c.args.t.now (omega (arith, at_most _ _ e))
