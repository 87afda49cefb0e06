use Rattle.std.proofs.Common.{refl, ◌∙◌, arith}
use Rattle.std.proofs.lemmas.Grind.{common_steps}
use Rattle.lego_level.proofs.PotentialLemmas.{value_push, value_same, top_same}
use Rattle.lego_level.proofs.potential.Potential.reserve.Goals as goal

pub loop-variable-preserved : goal.loop-variable-preserved
loop-variable-preserved c = record {
  same = value_push c.loop-variable.self _ refl c.in_ok-push.ensures.items ∙ c.loop-variable.invariant.same;
  top = c.loop-variable.invariant.top;
  longer = grind (arith, common_steps);
}

pub returns-in_err-push-clause-same : goal.returns-in_err-push-clause-same
returns-in_err-push-clause-same c = value_same c.loop-variable.self _ refl c.in_err-push.ensures.items ∙ c.loop-variable.invariant.same

pub returns-in_err-push-clause-top : goal.returns-in_err-push-clause-top
returns-in_err-push-clause-top c = top_same c.args.self.now _ (returns-in_err-push-clause-same c) c.loop-variable.invariant.top
