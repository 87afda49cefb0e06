use Rattle.lego_term.specs.Trees.{instantiate}
use Rattle.lego_term.proofs.substitution.subst.Goals as goal

pub returns : goal.returns
unfolding instantiate
returns c = c.rebuild.ensures
