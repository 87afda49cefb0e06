use Rattle.std.proofs.Common.{◌+◌, None, false, refl, subst, arith}
use Rattle.lego_level.specs.Graphs.{implied}
use Rattle.lego_level.specs.private.Potentials.{value_at}
use Rattle.lego_level.specs.private.Searches.{IsImpliedAt, Visited}
use Rattle.lego_level.proofs.SearchLemmas.{retodo}
use Rattle.lego_level.proofs.StepLemmas.{scan_visit, implied_from, implied_first, implied_rest, implied_last, implied_item, same_done}
use Rattle.lego_level.proofs.search.scan_implied.Goals as goal

pub loop-variable-init : goal.loop-variable-init
loop-variable-init c = record {
  scans = retodo c.args.task (value_at c.args.potential.now) c.args.edges.now c.args.search.now None c.args.from (IsImpliedAt c.args.task None) (implied_from c.args.task 0) c.requires.scans
      (implied_first c.args.task c.args.edges.now);
  done = λ u. refl;
  waiting = omega arith;
}

pub loop-variable-preserved : goal.loop-variable-preserved
loop-variable-preserved c =
    let i = c.loop-variable.variable in
    let it = implied_item c.args.task c.args.edges.now i c.requires.up (omega arith) in
    let v : Visited c.args.task (value_at c.args.potential.now) (implied i) c.args.from c.loop-variable.search c.visit.new.search false =
    subst (λ x. Visited c.args.task (value_at c.args.potential.now) x c.args.from c.loop-variable.search c.visit.new.search false) c.implied_by-constraint.ensures
    (subst (λ b. Visited c.args.task (value_at c.args.potential.now) c.implied_by-constraint.result c.args.from c.loop-variable.search c.visit.new.search b) c.if-branch.false c.in_ok-visit.ensures) in
    let r = scan_visit c.args.task (value_at c.args.potential.now) c.args.edges.now c.loop-variable.search c.visit.new.search None c.args.from (implied_from c.args.task i) (implied_from c.args.task (i + 1)) (implied i)
    c.requires.feasible c.loop-variable.invariant.scans (implied_rest c.args.task c.args.edges.now i) it.0 it.1 v in
    let w = r.2 in let w' = c.loop-variable.invariant.waiting in
    record { scans = r.0; done = same_done c.args.search.now c.loop-variable.search c.visit.new.search c.loop-variable.invariant.done r.1; waiting = omega (arith, w, w') }

pub returns-clause-scanned : goal.returns-clause-scanned
returns-clause-scanned c = retodo c.args.task (value_at c.args.potential.now) c.args.edges.now c.loop-variable.search None c.args.from (implied_from c.args.task c.loop-variable.variable) (λ _. ⊥) c.loop-variable.invariant.scans
    (implied_last c.args.task c.args.edges.now c.loop-variable.variable c.requires.up (omega arith))
