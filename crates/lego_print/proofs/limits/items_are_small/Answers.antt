use Rattle.std.proofs.Common.{◌≤◌, length, arith}
use Rattle.lego_print.proofs.LimitLemmas.{entries_small}
use Rattle.lego_print.proofs.limits.items_are_small.Goals as goal

pub returns : goal.returns
returns c =
    let past : length c.args.items.now ≤ c.loop-item.item-index = omega (arith, c.loop-item-test.false) in
    entries_small c.args.values.now c.args.items.now c.loop-item.item-index past c.loop-item.invariant
