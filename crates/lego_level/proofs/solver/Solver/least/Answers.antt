use Rattle.std.proofs.Common.{sym, subst}
use Rattle.std.specs.Result.{IfOk}
use Rattle.lego_level.specs.Graphs.{IsLeast, HasVariablesBelow}
use Rattle.lego_level.specs.private.Searches.{reached_at}
use Rattle.lego_level.proofs.MeaningLemmas.{least_result}
use Rattle.lego_level.proofs.solver.Solver.least.Goals as goal

pub returns-clause-least : goal.returns-clause-least
returns-clause-least c =
    subst (λ z. IfOk c.values_of.result (λ values. IsLeast z values.items)) c.self.view_is
    (least_result c.self.inside.edges c.args.count (reached_at c.in_ok-draft.draft) c.in_ok-draft.ensures (subst (λ z. HasVariablesBelow c.args.count z) (sym c.self.view_is) c.requires) c.values_of.result c.values_of.ensures.len c.values_of.ensures.values)
