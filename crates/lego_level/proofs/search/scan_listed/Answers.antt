use Rattle.std.proofs.Common.{◌≡◌, ◌+◌, [], get_or, drop, length, true, false, refl, ap, subst, arith}
use Rattle.std.proofs.lemmas.List.{drop_all}
use Rattle.lego_level.specs.private.Incidence.{incident}
use Rattle.lego_level.specs.private.Potentials.{value_at}
use Rattle.lego_level.specs.private.Searches.{blank, IsAt, IsImpliedAt, Visited}
use Rattle.lego_level.proofs.SearchLemmas.{edge_known, retodo}
use Rattle.lego_level.proofs.StepLemmas.{scan_visit, close_visit, listed_at, listed_first, listed_rest, listed_last, listed_item, item_rest, same_done}
use Rattle.lego_level.proofs.search.scan_listed.Goals as goal

pub loop-constraint-init : goal.loop-constraint-init
loop-constraint-init c = record {
  scans = retodo c.args.task (value_at c.args.potential.now) c.args.edges.now c.args.search.now c.args.node c.args.from (IsAt c.args.task c.args.node) (listed_at c.args.task c.args.edges.now c.args.node 0) c.requires.scans
      (listed_first c.args.task c.args.edges.now c.args.node);
  done = λ u. refl;
  waiting = omega arith;
}

pub visit-requires : goal.visit-requires
visit-requires c =
    let it = item_rest c.incident-constraint-items.result.now (incident c.args.task.direction c.args.node c.args.edges.now) c.loop-constraint.constraint-index blank c.incident-constraint-items.ensures (omega arith) in
    let item = get_or c.incident-constraint-items.result.now c.loop-constraint.constraint-index blank in
    let m = listed_item c.args.task c.args.edges.now c.args.node item it.1 in
    c.requires.feasible item (edge_known c.args.task c.args.edges.now item m.0)

pub returns-then-branch-clause-scanned : goal.returns-then-branch-clause-scanned
returns-then-branch-clause-scanned c =
    let i = c.loop-constraint.constraint-index in
    let it = item_rest c.incident-constraint-items.result.now (incident c.args.task.direction c.args.node c.args.edges.now) i blank c.incident-constraint-items.ensures (omega arith) in
    let item = get_or c.incident-constraint-items.result.now i blank in
    let m = listed_item c.args.task c.args.edges.now c.args.node item it.1 in
    let v : Visited c.args.task (value_at c.args.potential.now) item c.args.from c.loop-constraint.search c.visit.new.search true =
    subst (λ b. Visited c.args.task (value_at c.args.potential.now) item c.args.from c.loop-constraint.search c.visit.new.search b) c.if-branch.true c.in_ok-visit.ensures in
    close_visit c.args.task (value_at c.args.potential.now) c.args.edges.now c.loop-constraint.search c.visit.new.search c.args.node c.args.from (listed_at c.args.task c.args.edges.now c.args.node i) item
    c.loop-constraint.invariant.scans m.0 m.1 v

pub loop-constraint-preserved : goal.loop-constraint-preserved
loop-constraint-preserved c =
    let i = c.loop-constraint.constraint-index in
    let it = item_rest c.incident-constraint-items.result.now (incident c.args.task.direction c.args.node c.args.edges.now) i blank c.incident-constraint-items.ensures (omega arith) in
    let item = get_or c.incident-constraint-items.result.now i blank in
    let m = listed_item c.args.task c.args.edges.now c.args.node item it.1 in
    let v : Visited c.args.task (value_at c.args.potential.now) item c.args.from c.loop-constraint.search c.visit.new.search false =
    subst (λ b. Visited c.args.task (value_at c.args.potential.now) item c.args.from c.loop-constraint.search c.visit.new.search b) c.if-branch.false c.in_ok-visit.ensures in
    let r = scan_visit c.args.task (value_at c.args.potential.now) c.args.edges.now c.loop-constraint.search c.visit.new.search c.args.node c.args.from
    (listed_at c.args.task c.args.edges.now c.args.node i) (listed_at c.args.task c.args.edges.now c.args.node (i + 1)) item
    c.requires.feasible c.loop-constraint.invariant.scans (listed_rest c.args.task c.args.edges.now c.args.node i item it.0) m.0 m.1 v in
    let w = r.2 in let w' = c.loop-constraint.invariant.waiting in
    record { scans = r.0; done = same_done c.args.search.now c.loop-constraint.search c.visit.new.search c.loop-constraint.invariant.done r.1; waiting = omega (arith, w, w') }

pub returns-clause-scanned : goal.returns-clause-scanned
returns-clause-scanned c =
    let i = c.loop-constraint.constraint-index in let all = incident c.args.task.direction c.args.node c.args.edges.now in
    let none : drop i all ≡ [] = drop_all i all (let k = ap length c.incident-constraint-items.ensures in omega (arith, k)) in
    retodo c.args.task (value_at c.args.potential.now) c.args.edges.now c.loop-constraint.search c.args.node c.args.from (listed_at c.args.task c.args.edges.now c.args.node i) (IsImpliedAt c.args.task c.args.node) c.loop-constraint.invariant.scans
    (λ x. listed_last c.args.task c.args.edges.now c.args.node i x none)
