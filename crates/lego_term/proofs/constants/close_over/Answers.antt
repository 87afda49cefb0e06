use Rattle.lego_term.specs.Trees.{close_over}
use Rattle.lego_term.proofs.ConstantLemmas.{size-close, depth-close}
use Rattle.lego_term.proofs.OverLemmas.{rebuilt_fault}
use Rattle.lego_term.proofs.constants.close_over.Goals as goal

pub returns-clause-err : goal.returns-clause-err
returns-clause-err c =
    let t = c.args.t.now in
    let numbers = c.args.numbers.now in
    rebuilt_fault t (close_over numbers 0 t) c.rebuild.result (size-close numbers 0 t) (depth-close numbers 0 t) c.loose.ensures.limits c.rebuild.ensures
