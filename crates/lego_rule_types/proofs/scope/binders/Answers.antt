use Rattle.std.proofs.Common.{◌+◌, ◌∙◌, arith}
use Rattle.lego_inference.specs.declared.locals.Local.{Local}
use Rattle.lego_rule_types.proofs.ScopeLemmas.{mapped_next, mapped_all}
use Rattle.lego_rule_types.proofs.scope.binders.Goals as goal

pub loop-at-preserved : goal.loop-at-preserved
loop-at-preserved c =
    c.in_ok-push.ensures.items
    ∙ mapped_next (λ (x : Local). x.binder) c.args.locals.now c.loop-at.binders.items c.loop-at.at (c.loop-at.at + 1) (record { binder = c.get.result.0; ty = c.get.result.1.now }) (omega arith) c.loop-at.invariant c.get.ensures

pub returns : goal.returns
returns c =
    let e = c.len-at-end.ensures.exact in
    let f = c.loop-at-test.false in
    mapped_all (λ (x : Local). x.binder) c.args.locals.now c.loop-at.binders.items c.loop-at.at c.loop-at.invariant (omega arith)
