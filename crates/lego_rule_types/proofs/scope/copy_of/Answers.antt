use Rattle.std.proofs.Common.{◌+◌, ◌∙◌, List, reverse, ap, arith}
use Rattle.lego_inference.specs.declared.locals.Local.{Local}
use Rattle.lego_rule_types.proofs.ScopeLemmas.{copied_next, copied_all, taken_length}
use Rattle.lego_rule_types.proofs.scope.copy_of.Goals as goal

pub push-requires : goal.push-requires
push-requires c =
    let e = c.len-at-end.ensures.exact in
    let l = c.len-at-end.ensures.limit in
    let f = c.loop-at-test.true in
    let n = taken_length c.args.locals.now c.loop-at.copy c.loop-at.at c.loop-at.invariant (omega arith) in
    omega arith

pub loop-at-preserved : goal.loop-at-preserved
loop-at-preserved c =
    ap (λ (z : List Local). reverse z) c.in_ok-push.ensures.ok
    ∙ copied_next c.args.locals.now c.loop-at.copy c.loop-at.at (c.loop-at.at + 1) (record { binder = c.get.result.0; ty = c.get.result.1.now }) (omega arith) c.loop-at.invariant c.get.ensures

pub returns : goal.returns
returns c =
    let e = c.len-at-end.ensures.exact in
    let f = c.loop-at-test.false in
    copied_all c.args.locals.now c.loop-at.copy c.loop-at.at c.loop-at.invariant (omega arith)
