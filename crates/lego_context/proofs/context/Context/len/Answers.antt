use Rattle.std.proofs.Common.{subst}
use Rattle.lego_context.specs.Contexts.{IsContext}
use Rattle.lego_context.proofs.FrontLemmas.{are_over_fronts}
use Rattle.lego_context.proofs.PureLemmas.{holds_by_luos_rules}
use Rattle.lego_context.proofs.context.Context.len.Goals as goal

pub returns-clause-pure : goal.returns-clause-pure
returns-clause-pure c = holds_by_luos_rules c.args.self.now (subst IsContext c.self.view_is c.self.invariant.0)

pub returns-clause-named : goal.returns-clause-named
returns-clause-named c = are_over_fronts c.args.self.now (subst IsContext c.self.view_is c.self.invariant.0)
