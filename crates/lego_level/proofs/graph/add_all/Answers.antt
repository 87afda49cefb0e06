use Rattle.std.proofs.Common.{◌+◌, ◌++◌, sym, ◌∙◌, subst, take, drop, get_or, refl, arith}
use Rattle.std.proofs.lemmas.Result.{err_from_is_err_and}
use Rattle.lego_level.specs.private.Faults.{IsInsertFault}
use Rattle.lego_level.specs.Refusals.{graph_fault, IsGraphFault}
use Rattle.lego_level.proofs.GraphLemmas.{fault_more, taken_more, all_of}
use Rattle.lego_level.specs.private.Searches.{blank}
use Rattle.lego_level.proofs.SolverLemmas.{item_parts}
use Rattle.lego_level.proofs.graph.add_all.Goals as goal

pub returns-in_err-insert-clause-refused : goal.returns-in_err-insert-clause-refused
returns-in_err-insert-clause-refused c =
    let i = c.loop-constraint.constraint-index in let more = c.args.more.now in let now = c.args.solver.now in
    let it = item_parts more more i blank refl (omega arith) in
    let item = get_or more i blank in
    let p = err_from_is_err_and c.from_residual.result c.from_residual.ensures.1 in
    let k : IsInsertFault (now ++ take (i + 1) more) c.in_err-insert.field-0.0 =
    subst (λ z. IsInsertFault z c.in_err-insert.field-0.0) (taken_more c.loop-constraint.solver now more i item c.loop-constraint.invariant it.2) c.in_err-insert.ensures.refused in
    let x : IsGraphFault (now ++ more) (graph_fault c.in_err-insert.field-0.0) =
    subst (λ z. IsGraphFault z (graph_fault c.in_err-insert.field-0.0)) (sym (all_of now more (i + 1))) (fault_more (now ++ take (i + 1) more) (drop (i + 1) more) c.in_err-insert.field-0.0 k) in
    rw (p.1, p.2) x

pub loop-constraint-preserved : goal.loop-constraint-preserved
loop-constraint-preserved c =
    let i = c.loop-constraint.constraint-index in let more = c.args.more.now in
    let it = item_parts more more i blank refl (omega arith) in
    let item = get_or more i blank in
    c.in_ok-insert.ensures.taken ∙ taken_more c.loop-constraint.solver c.args.solver.now more i item c.loop-constraint.invariant it.2
