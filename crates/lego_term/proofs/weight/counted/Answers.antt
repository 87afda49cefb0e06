use Rattle.std.proofs.Common.{sym}
use Rattle.lego_term.proofs.CountedLemmas.{in_scope, out_of_scope}
use Rattle.lego_term.proofs.weight.counted.Goals as goal

pub returns-then-index-scope-clause-height : goal.returns-then-index-scope-clause-height
returns-then-index-scope-clause-height c = in_scope (λ x. x.height) c.args.scope.now c.args.index _ c.if-index-scope.true

pub returns-then-index-scope-clause-weight : goal.returns-then-index-scope-clause-weight
returns-then-index-scope-clause-weight c = in_scope (λ x. x.weight) c.args.scope.now c.args.index _ c.if-index-scope.true

pub returns-else-index-scope-clause-height : goal.returns-else-index-scope-clause-height
returns-else-index-scope-clause-height c = sym (out_of_scope (λ x. x.height) c.args.scope.now c.args.index c.if-index-scope.false)

pub returns-else-index-scope-clause-weight : goal.returns-else-index-scope-clause-weight
returns-else-index-scope-clause-weight c = sym (out_of_scope (λ x. x.weight) c.args.scope.now c.args.index c.if-index-scope.false)
