use Rattle.std.proofs.Common.{sym}
use Rattle.lego_rule_types.proofs.NodeLemmas.{in_scope, out_of_scope}
use Rattle.lego_rule_types.proofs.nodes.counted.Goals as goal

pub returns-then-index-scope : goal.returns-then-index-scope
returns-then-index-scope c = in_scope c.args.scope.now c.args.index _ c.if-index-scope.true

pub returns-else-index-scope : goal.returns-else-index-scope
returns-else-index-scope c = sym (out_of_scope c.args.scope.now c.args.index c.if-index-scope.false)
