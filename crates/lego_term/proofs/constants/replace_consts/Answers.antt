use Rattle.std.proofs.Common.{subst}
use Rattle.lego_term.specs.Trees.{Core}
use Rattle.lego_term.specs.Made.{Rebuilds}
use Rattle.lego_term.specs.BodyMap.{bodies_in}
use Rattle.lego_term.proofs.ConstantLemmas.{replace-under}
use Rattle.lego_term.proofs.constants.replace_consts.Goals as goal

pub returns : goal.returns
returns c = subst (λ (u : Core). Rebuilds u c.rebuild.result) (replace-under (bodies_in c.args.bodies.now) 0 c.args.t.now) c.rebuild.ensures
