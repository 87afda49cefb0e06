use Rattle.std.proofs.Common.{◌∙◌, sym, arith}
use Rattle.lego_term.proofs.LiftLemmas.{lift-low, size-lift, depth-lift}
use Rattle.lego_term.proofs.OverLemmas.{rebuilt_tree, rebuilt_fault}
use Rattle.lego_term.specs.Trees.{lift}
use Rattle.lego_term.proofs.lifting.lift_within.Goals as goal

pub returns-then-loose-from-clause-ok : goal.returns-then-loose-from-clause-ok
returns-then-loose-from-clause-ok c = c.in_ok-share.ensures.same ∙ sym (lift-low c.args.from c.args.by c.args.t.now (omega arith))

pub returns-clause-ok : goal.returns-clause-ok
returns-clause-ok c = rebuilt_tree (lift c.args.from c.args.by c.args.t.now) c.rebuild.result c.rebuild.ensures

pub returns-clause-err : goal.returns-clause-err
returns-clause-err c =
    let t = c.args.t.now in
    rebuilt_fault t (lift c.args.from c.args.by t) c.rebuild.result (size-lift c.args.from c.args.by t) (depth-lift c.args.from c.args.by t) c.loose.ensures.limits c.rebuild.ensures
