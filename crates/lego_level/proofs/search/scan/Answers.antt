use Rattle.std.proofs.Common.{◌≡◌, ◌≤◌, ◌+◌, length, true, false, ap, subst, arith}
use Rattle.std.specs.Option.{MatchOption}
use Rattle.std.proofs.lemmas.Result.{on_ok_weaker}
use Rattle.lego_level.specs.declared.search.Search.{Search}
use Rattle.lego_level.specs.Graphs.{implied}
use Rattle.lego_level.specs.private.Potentials.{value_at}
use Rattle.lego_level.specs.private.Searches.{IsImpliedAt, Scans, Stops, Visited}
use Rattle.lego_level.proofs.IncidenceLemmas.{length_incident}
use Rattle.lego_level.proofs.StepLemmas.{scan_visit, searches_of, lower_item, lower_rest, none_upper, none_lower, same_done}
use Rattle.lego_level.proofs.search.scan.Goals as goal

pub returns-in-Some-clause-waiting : goal.returns-in-Some-clause-waiting
returns-in-Some-clause-waiting c = let l = length_incident c.args.task.direction c.args.node c.args.edges.now in let w = c.in_ok-stopped.ensures.waiting in omega (arith, l, w)

pub returns-then-branch-clause-waiting : goal.returns-then-branch-clause-waiting
returns-then-branch-clause-waiting c =
    let l = length_incident c.args.task.direction c.args.node c.args.edges.now in let w = c.in_ok-stopped.ensures.waiting in
    let v : Visited c.args.task (value_at c.args.potential.now) c.implied_by-constraint.result c.args.from c.scan_listed.new.search c.visit.new.search true =
    subst (λ b. Visited c.args.task (value_at c.args.potential.now) c.implied_by-constraint.result c.args.from c.scan_listed.new.search c.visit.new.search b) c.if-branch.true c.in_ok-visit-in-Down-Some.ensures in
    let k : length c.visit.new.search.queue ≡ length c.scan_listed.new.search.queue = ap (λ (s : Search). length s.queue) v.same in omega (arith, l, w, k)

pub returns-in-Up-None-clause-waiting : goal.returns-in-Up-None-clause-waiting
returns-in-Up-None-clause-waiting c =
    let l = length_incident c.args.task.direction c.args.node c.args.edges.now in let w = c.in_ok-stopped.ensures.waiting in
    on_ok_weaker c.scan_implied.result (λ (k : length c.scan_implied.new.search.queue ≤ length c.scan_listed.new.search.queue + c.args.task.count). omega (arith, l, w, k)) c.scan_implied.ensures.waiting

pub returns-else-branch-clause-scanned : goal.returns-else-branch-clause-scanned
returns-else-branch-clause-scanned c =
    let z : Scans c.args.task (value_at c.args.potential.now) c.args.edges.now c.scan_listed.new.search c.args.node c.args.from (IsImpliedAt c.args.task c.args.node) =
    subst (λ o. MatchOption o (Scans c.args.task (value_at c.args.potential.now) c.args.edges.now c.scan_listed.new.search c.args.node c.args.from (IsImpliedAt c.args.task c.args.node)) (Stops c.args.task (value_at c.args.potential.now) c.args.edges.now c.scan_listed.new.search)) c.in_default.is c.in_ok-stopped.ensures.scanned in
    let it = lower_item c.args.task c.args.edges.now c.args.node c.in-Down-Some.variable c.in-Down-Some.is-0 c.in-Down-Some.is-1 in
    let v : Visited c.args.task (value_at c.args.potential.now) (implied c.in-Down-Some.variable) c.args.from c.scan_listed.new.search c.visit.new.search false =
    subst (λ x. Visited c.args.task (value_at c.args.potential.now) x c.args.from c.scan_listed.new.search c.visit.new.search false) c.implied_by-constraint.ensures
    (subst (λ b. Visited c.args.task (value_at c.args.potential.now) c.implied_by-constraint.result c.args.from c.scan_listed.new.search c.visit.new.search b) c.if-branch.false c.in_ok-visit-in-Down-Some.ensures) in
    let r = scan_visit c.args.task (value_at c.args.potential.now) c.args.edges.now c.scan_listed.new.search c.visit.new.search c.args.node c.args.from (IsImpliedAt c.args.task c.args.node) (λ _. ⊥) (implied c.in-Down-Some.variable)
    c.requires.feasible z (lower_rest c.args.task c.args.edges.now c.args.node c.in-Down-Some.variable c.in-Down-Some.is-0 c.in-Down-Some.is-1) it.0 it.1 v in
    searches_of c.args.task (value_at c.args.potential.now) c.args.edges.now c.visit.new.search c.args.node c.args.from (λ _. ⊥) r.0 (λ x edge h. h)

pub returns-else-branch-clause-done : goal.returns-else-branch-clause-done
returns-else-branch-clause-done c =
    let z : Scans c.args.task (value_at c.args.potential.now) c.args.edges.now c.scan_listed.new.search c.args.node c.args.from (IsImpliedAt c.args.task c.args.node) =
    subst (λ o. MatchOption o (Scans c.args.task (value_at c.args.potential.now) c.args.edges.now c.scan_listed.new.search c.args.node c.args.from (IsImpliedAt c.args.task c.args.node)) (Stops c.args.task (value_at c.args.potential.now) c.args.edges.now c.scan_listed.new.search)) c.in_default.is c.in_ok-stopped.ensures.scanned in
    let it = lower_item c.args.task c.args.edges.now c.args.node c.in-Down-Some.variable c.in-Down-Some.is-0 c.in-Down-Some.is-1 in
    let v : Visited c.args.task (value_at c.args.potential.now) (implied c.in-Down-Some.variable) c.args.from c.scan_listed.new.search c.visit.new.search false =
    subst (λ x. Visited c.args.task (value_at c.args.potential.now) x c.args.from c.scan_listed.new.search c.visit.new.search false) c.implied_by-constraint.ensures
    (subst (λ b. Visited c.args.task (value_at c.args.potential.now) c.implied_by-constraint.result c.args.from c.scan_listed.new.search c.visit.new.search b) c.if-branch.false c.in_ok-visit-in-Down-Some.ensures) in
    let r = scan_visit c.args.task (value_at c.args.potential.now) c.args.edges.now c.scan_listed.new.search c.visit.new.search c.args.node c.args.from (IsImpliedAt c.args.task c.args.node) (λ _. ⊥) (implied c.in-Down-Some.variable)
    c.requires.feasible z (lower_rest c.args.task c.args.edges.now c.args.node c.in-Down-Some.variable c.in-Down-Some.is-0 c.in-Down-Some.is-1) it.0 it.1 v in
    same_done c.args.search.now c.scan_listed.new.search c.visit.new.search c.in_ok-stopped.ensures.done r.1

pub returns-else-branch-clause-waiting : goal.returns-else-branch-clause-waiting
returns-else-branch-clause-waiting c =
    let z : Scans c.args.task (value_at c.args.potential.now) c.args.edges.now c.scan_listed.new.search c.args.node c.args.from (IsImpliedAt c.args.task c.args.node) =
    subst (λ o. MatchOption o (Scans c.args.task (value_at c.args.potential.now) c.args.edges.now c.scan_listed.new.search c.args.node c.args.from (IsImpliedAt c.args.task c.args.node)) (Stops c.args.task (value_at c.args.potential.now) c.args.edges.now c.scan_listed.new.search)) c.in_default.is c.in_ok-stopped.ensures.scanned in
    let it = lower_item c.args.task c.args.edges.now c.args.node c.in-Down-Some.variable c.in-Down-Some.is-0 c.in-Down-Some.is-1 in
    let v : Visited c.args.task (value_at c.args.potential.now) (implied c.in-Down-Some.variable) c.args.from c.scan_listed.new.search c.visit.new.search false =
    subst (λ x. Visited c.args.task (value_at c.args.potential.now) x c.args.from c.scan_listed.new.search c.visit.new.search false) c.implied_by-constraint.ensures
    (subst (λ b. Visited c.args.task (value_at c.args.potential.now) c.implied_by-constraint.result c.args.from c.scan_listed.new.search c.visit.new.search b) c.if-branch.false c.in_ok-visit-in-Down-Some.ensures) in
    let r = scan_visit c.args.task (value_at c.args.potential.now) c.args.edges.now c.scan_listed.new.search c.visit.new.search c.args.node c.args.from (IsImpliedAt c.args.task c.args.node) (λ _. ⊥) (implied c.in-Down-Some.variable)
    c.requires.feasible z (lower_rest c.args.task c.args.edges.now c.args.node c.in-Down-Some.variable c.in-Down-Some.is-0 c.in-Down-Some.is-1) it.0 it.1 v in
    let l = length_incident c.args.task.direction c.args.node c.args.edges.now in let w = c.in_ok-stopped.ensures.waiting in let k = r.2 in omega (arith, l, w, k)

pub returns-in_default-2-clause-scanned : goal.returns-in_default-2-clause-scanned
returns-in_default-2-clause-scanned c =
    let z : Scans c.args.task (value_at c.args.potential.now) c.args.edges.now c.scan_listed.new.search c.args.node c.args.from (IsImpliedAt c.args.task c.args.node) =
    subst (λ o. MatchOption o (Scans c.args.task (value_at c.args.potential.now) c.args.edges.now c.scan_listed.new.search c.args.node c.args.from (IsImpliedAt c.args.task c.args.node)) (Stops c.args.task (value_at c.args.potential.now) c.args.edges.now c.scan_listed.new.search)) c.in_default.is c.in_ok-stopped.ensures.scanned in
    searches_of c.args.task (value_at c.args.potential.now) c.args.edges.now c.scan_listed.new.search c.args.node c.args.from (IsImpliedAt c.args.task c.args.node) z
    (none_upper c.args.task c.args.edges.now c.args.node c.in_default-2.field-0-1 c.in_default-2.is-0 c.in_default-2.is-1)

pub returns-in_default-2-clause-waiting : goal.returns-in_default-2-clause-waiting
returns-in_default-2-clause-waiting c = let l = length_incident c.args.task.direction c.args.node c.args.edges.now in let w = c.in_ok-stopped.ensures.waiting in omega (arith, l, w)

pub returns-in_default-2-2-clause-scanned : goal.returns-in_default-2-2-clause-scanned
returns-in_default-2-2-clause-scanned c =
    let z : Scans c.args.task (value_at c.args.potential.now) c.args.edges.now c.scan_listed.new.search c.args.node c.args.from (IsImpliedAt c.args.task c.args.node) =
    subst (λ o. MatchOption o (Scans c.args.task (value_at c.args.potential.now) c.args.edges.now c.scan_listed.new.search c.args.node c.args.from (IsImpliedAt c.args.task c.args.node)) (Stops c.args.task (value_at c.args.potential.now) c.args.edges.now c.scan_listed.new.search)) c.in_default.is c.in_ok-stopped.ensures.scanned in
    searches_of c.args.task (value_at c.args.potential.now) c.args.edges.now c.scan_listed.new.search c.args.node c.args.from (IsImpliedAt c.args.task c.args.node) z
    (none_lower c.args.task c.args.edges.now c.args.node c.in_default-2.is-0 c.in_default-2.is-1)

pub returns-in_default-2-2-clause-waiting : goal.returns-in_default-2-2-clause-waiting
returns-in_default-2-2-clause-waiting c = let l = length_incident c.args.task.direction c.args.node c.args.edges.now in let w = c.in_ok-stopped.ensures.waiting in omega (arith, l, w)
