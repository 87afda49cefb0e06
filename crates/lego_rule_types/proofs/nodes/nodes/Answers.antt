use Rattle.std.proofs.Common.{arith}
use Rattle.std.proofs.lemmas.Result.{err_from_is_err_and}
use Rattle.lego_rule_types.proofs.NodeLemmas.{whole_nodes, whole_over, named_count}
use Rattle.lego_rule_types.proofs.nodes.nodes.Goals as goal

pub returns-in_err-counted : goal.returns-in_err-counted
returns-in_err-counted c =
    let e = err_from_is_err_and c.from_residual.result c.from_residual.ensures.1 in
    rw (e.1, e.2) (whole_over c.args.most c.args.t.now c.new-scope.result.items c.in_err-counted.field-0.0 c.new-scope.ensures.items c.in_err-counted.ensures.counted)

pub returns : goal.returns
returns c =
    let n = whole_nodes c.args.t.now c.new-scope.result.items c.new-scope.ensures.items in
    let k = c.in_ok-counted.ensures.counted in
    named_count _ _ c.args.most c.within.result (omega (arith, n, k)) c.within.ensures
