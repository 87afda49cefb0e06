use Rattle.std.proofs.Common.{◌≡◌, ℕ, ◌+◌, ◌++◌, ◌∙◌, List, length, Ok, Err, refl, sym, ap, subst, arith}
use Rattle.std.proofs.lemmas.Result.{err_from_is_err_and}
use Rattle.lego_term.specs.Trees.{Core}
use Rattle.lego_level.specs.declared.constraint.Constraint.{Constraint}
use Rattle.lego_laws.specs.Places.{AType, Stated, Site, behind, AnyType, BeAType, OfType, OfWrittenType}
use Rattle.lego_laws.specs.RuleTypes.{nodes}
use Rattle.lego_laws.specs.Ranges.{sort_term}
use Rattle.lego_inference.specs.Causes.{IsWhole}
use Rattle.lego_inference.specs.Failures.{TypeFails}
use Rattle.lego_inference.specs.Calls.{task_over}
use Rattle.lego_inference.specs.Entries.{laws_entries}
use Rattle.lego_inference.specs.Locals.{site_of, types_of, binders_of}
use Rattle.lego_inference.specs.declared.locals.Local.{Local}
use Rattle.lego_inference.specs.private.Judging.{IsReady, Fails, FailsAt, Infers, FindsSort, ChecksAt, FindsHead, Compares, PairFails}
use Rattle.lego_inference.proofs.LocalLemmas.{length-map}
use Rattle.lego_inference.proofs.ReadyLemmas.{loose_of}
use Rattle.lego_inference.proofs.FailLemmas.{at_pair}
use Rattle.lego_inference.proofs.FormerRules.{type_shaped}
use Rattle.lego_inference.proofs.JudgeLemmas.{at_site, sort_found, few_names, adds_then}
use Rattle.lego_inference.proofs.CallLemmas.{ready_whole, ready_behind, measured_fails, judged_is}
use Rattle.lego_inference.proofs.WholeLemmas.{is_new, measured_both, is_begun, whole_fails, type_fails, check_fails, written_fails, against_fails, inferred_whole, type_whole, check_whole, written_whole}
use Rattle.lego_inference.proofs.calls.check_written.Goals as goal

pub returns-in_err-locals : goal.returns-in_err-locals
returns-in_err-locals c =
    let e = err_from_is_err_and c.from_residual.result c.from_residual.ensures.1 in
    rw (e.1, e.2) (TypeFails.memory)

pub returns-in_err-measure : goal.returns-in_err-measure
returns-in_err-measure c =
    let e = err_from_is_err_and c.from_residual-in_err-measure.result c.from_residual-in_err-measure.ensures.1 in
    rw (e.1, e.2) (measured_fails c.args.asked.limit (task_over c.args.signature.now c.args.locals.now c.args.levels c.args.m.now (OfWrittenType c.args.written.now)) c.args.m.now c.in_err-measure.field-0.0 IsWhole.core c.in_err-measure.ensures)

pub returns-in_err-measure-2 : goal.returns-in_err-measure-2
returns-in_err-measure-2 c =
    let e = err_from_is_err_and c.from_residual-in_err-measure-2.result c.from_residual-in_err-measure-2.ensures.1 in
    rw (e.1, e.2) (measured_fails c.args.asked.limit (task_over c.args.signature.now c.args.locals.now c.args.levels c.args.m.now (OfWrittenType c.args.written.now)) c.args.written.now c.in_err-measure-2.field-0.0 (IsWhole.written refl) c.in_err-measure-2.ensures)

pub judge-requires : goal.judge-requires
judge-requires c =
    (at_site (λ z. IsReady (laws_entries c.args.signature.now) z c.args.m.now) {l = c.args.locals.now} {n = c.args.levels} (sym c.in_ok-locals.ensures) (sym c.new-found.ensures.levels) (ready_whole c.args.signature.now c.args.locals.now c.args.levels c.args.m.now c.in_ok-measure.field-0 c.alloc-alloc.ensures c.requires.held c.requires.term c.in_ok-measure.ensures))

pub returns-in_err-have : goal.returns-in_err-have
returns-in_err-have c =
    let e = err_from_is_err_and c.from_residual-in_err-have.result c.from_residual-in_err-have.ensures.1 in
    rw (e.1, e.2) (whole_fails (laws_entries c.args.signature.now) c.args.asked.limit (site_of c.args.locals.now c.args.levels) c.args.m.now c.in_err-have.field-0.0 (OfWrittenType c.args.written.now) (is_begun (laws_entries c.args.signature.now) (site_of c.args.locals.now c.args.levels) c.args.m.now (OfWrittenType c.args.written.now) (is_new (laws_entries c.args.signature.now) (site_of c.args.locals.now c.args.levels) c.args.m.now (OfWrittenType c.args.written.now) c.requires.held.entries c.requires.held.types (let w = c.requires.term.levels_within in let v = c.requires.written.levels_within in omega arith)) (measured_both (laws_entries c.args.signature.now) (site_of c.args.locals.now c.args.levels) c.args.m.now c.args.written.now c.in_ok-measure.field-0 c.in_ok-measure-2.field-0 c.in_ok-measure.ensures c.in_ok-measure-2.ensures)) (at_site (λ z. Fails (laws_entries c.args.signature.now) c.args.asked.limit z c.args.m.now c.in_err-have.field-0.0) {l = c.in_ok-locals.locals} {n = c.new-found.result.levels} c.in_ok-locals.ensures c.new-found.ensures.levels c.in_err-have.ensures.judged))

pub type_at-requires : goal.type_at-requires
type_at-requires c =
    at_site (λ z. IsReady (laws_entries c.args.signature.now) z c.args.written.now) {l = c.args.locals.now} {n = c.args.levels + nodes c.args.m.now} (sym (c.in_ok-have.ensures.kept ∙ c.in_ok-locals.ensures)) (sym (c.in_ok-have.ensures.judged.1.levels ∙ ap (λ (z : ℕ). z + nodes c.args.m.now) c.new-found.ensures.levels)) (ready_behind (nodes c.args.m.now) (ready_whole c.args.signature.now c.args.locals.now c.args.levels c.args.written.now c.in_ok-measure-2.field-0 c.alloc-alloc.ensures c.requires.held c.requires.written c.in_ok-measure-2.ensures))

pub returns-in_err-type_at : goal.returns-in_err-type_at
returns-in_err-type_at c =
    let e = err_from_is_err_and c.from_residual-in_err-type_at.result c.from_residual-in_err-type_at.ensures.1 in
    rw (e.1, e.2) (written_fails (laws_entries c.args.signature.now) c.args.asked.limit (site_of c.args.locals.now c.args.levels) c.args.m.now c.in_err-type_at.field-0.0 c.args.written.now (is_begun (laws_entries c.args.signature.now) (site_of c.args.locals.now c.args.levels) c.args.m.now (OfWrittenType c.args.written.now) (is_new (laws_entries c.args.signature.now) (site_of c.args.locals.now c.args.levels) c.args.m.now (OfWrittenType c.args.written.now) c.requires.held.entries c.requires.held.types (let w = c.requires.term.levels_within in let v = c.requires.written.levels_within in omega arith)) (measured_both (laws_entries c.args.signature.now) (site_of c.args.locals.now c.args.levels) c.args.m.now c.args.written.now c.in_ok-measure.field-0 c.in_ok-measure-2.field-0 c.in_ok-measure.ensures c.in_ok-measure-2.ensures)) (at_site (λ z. Infers (laws_entries c.args.signature.now) c.args.asked z c.args.m.now c.new-found.result c.judge.new.found (Ok c.in_ok-have.have)) {l = c.in_ok-locals.locals} {n = c.new-found.result.levels} c.in_ok-locals.ensures c.new-found.ensures.levels c.in_ok-have.ensures.judged).2.parts (at_site (λ z. FailsAt (laws_entries c.args.signature.now) c.args.asked.limit z c.args.written.now AType c.in_err-type_at.field-0.0) {l = c.judge.new.locals} {l' = c.args.locals.now} {n = c.judge.new.found.levels} {n' = c.args.levels + nodes c.args.m.now} (c.in_ok-have.ensures.kept ∙ c.in_ok-locals.ensures) (c.in_ok-have.ensures.judged.1.levels ∙ ap (λ (z : ℕ). z + nodes c.args.m.now) c.new-found.ensures.levels) c.in_err-type_at.ensures.sort))

pub compare-requires-clause-left : goal.compare-requires-clause-left
compare-requires-clause-left c =
    let l = loose_of (ready_whole c.args.signature.now c.args.locals.now c.args.levels c.args.m.now c.in_ok-measure.field-0 c.alloc-alloc.ensures c.requires.held c.requires.term c.in_ok-measure.ensures) (at_site (λ z. Infers (laws_entries c.args.signature.now) c.args.asked z c.args.m.now c.new-found.result c.judge.new.found (Ok c.in_ok-have.have)) {l = c.in_ok-locals.locals} {n = c.new-found.result.levels} c.in_ok-locals.ensures c.new-found.ensures.levels c.in_ok-have.ensures.judged).2.rule in let k = few_names c.args.locals.now c.args.levels (ready_whole c.args.signature.now c.args.locals.now c.args.levels c.args.m.now c.in_ok-measure.field-0 c.alloc-alloc.ensures c.requires.held c.requires.term c.in_ok-measure.ensures) in omega (arith, length-map (λ (z : Local). z.ty) c.args.locals.now)

pub compare-requires-clause-right : goal.compare-requires-clause-right
compare-requires-clause-right c =
    let v = c.requires.written.variables in let k = few_names c.args.locals.now c.args.levels (ready_whole c.args.signature.now c.args.locals.now c.args.levels c.args.m.now c.in_ok-measure.field-0 c.alloc-alloc.ensures c.requires.held c.requires.term c.in_ok-measure.ensures) in omega (arith, length-map (λ (z : Local). z.ty) c.args.locals.now)

pub returns-in_err-compare : goal.returns-in_err-compare
returns-in_err-compare c =
    let e = err_from_is_err_and c.from_residual-in_err-compare.result c.from_residual-in_err-compare.ensures.1 in
    rw (e.1, e.2) (against_fails (laws_entries c.args.signature.now) c.args.asked.limit (site_of c.args.locals.now c.args.levels) c.args.m.now c.in_err-compare.field-0.0 c.args.written.now (is_begun (laws_entries c.args.signature.now) (site_of c.args.locals.now c.args.levels) c.args.m.now (OfWrittenType c.args.written.now) (is_new (laws_entries c.args.signature.now) (site_of c.args.locals.now c.args.levels) c.args.m.now (OfWrittenType c.args.written.now) c.requires.held.entries c.requires.held.types (let w = c.requires.term.levels_within in let v = c.requires.written.levels_within in omega arith)) (measured_both (laws_entries c.args.signature.now) (site_of c.args.locals.now c.args.levels) c.args.m.now c.args.written.now c.in_ok-measure.field-0 c.in_ok-measure-2.field-0 c.in_ok-measure.ensures c.in_ok-measure-2.ensures)) (type_shaped (at_site (λ z. FindsSort (laws_entries c.args.signature.now) c.args.asked z c.args.written.now c.judge.new.found c.type_at.new.found (Ok c.in_ok-type_at.field-0)) {l = c.judge.new.locals} {l' = c.args.locals.now} {n = c.judge.new.found.levels} {n' = c.args.levels + nodes c.args.m.now} (c.in_ok-have.ensures.kept ∙ c.in_ok-locals.ensures) (c.in_ok-have.ensures.judged.1.levels ∙ ap (λ (z : ℕ). z + nodes c.args.m.now) c.new-found.ensures.levels) c.in_ok-type_at.ensures.sort).2) (at_pair c.alloc-alloc.ensures.bodies (at_site (λ z. Infers (laws_entries c.args.signature.now) c.args.asked z c.args.m.now c.new-found.result c.judge.new.found (Ok c.in_ok-have.have)) {l = c.in_ok-locals.locals} {n = c.new-found.result.levels} c.in_ok-locals.ensures c.new-found.ensures.levels c.in_ok-have.ensures.judged).2 (subst (λ (z : List Local). PairFails (laws_entries c.args.signature.now) c.args.asked.limit (binders_of z) c.args.m.now c.in_ok-have.have c.args.written.now c.in_err-compare.field-0.0) (c.in_ok-type_at.ensures.kept ∙ (c.in_ok-have.ensures.kept ∙ c.in_ok-locals.ensures)) c.in_err-compare.ensures)))

pub returns-in_err-share : goal.returns-in_err-share
returns-in_err-share c =
    let e = err_from_is_err_and c.from_residual-in_err-share.result c.from_residual-in_err-share.ensures.1 in
    rw (e.1, e.2) (TypeFails.memory)

pub returns : goal.returns
returns c =
    let j = (at_site (λ z. Infers (laws_entries c.args.signature.now) c.args.asked z c.args.m.now c.new-found.result c.judge.new.found (Ok c.in_ok-have.have)) {l = c.in_ok-locals.locals} {n = c.new-found.result.levels} c.in_ok-locals.ensures c.new-found.ensures.levels c.in_ok-have.ensures.judged) in
    let t = (at_site (λ z. FindsSort (laws_entries c.args.signature.now) c.args.asked z c.args.written.now c.judge.new.found c.type_at.new.found (Ok c.in_ok-type_at.field-0)) {l = c.judge.new.locals} {l' = c.args.locals.now} {n = c.judge.new.found.levels} {n' = c.args.levels + nodes c.args.m.now} (c.in_ok-have.ensures.kept ∙ c.in_ok-locals.ensures) (c.in_ok-have.ensures.judged.1.levels ∙ ap (λ (z : ℕ). z + nodes c.args.m.now) c.new-found.ensures.levels) c.in_ok-type_at.ensures.sort) in
    let more = subst (λ (z : List Local). Compares (laws_entries c.args.signature.now) c.args.asked (binders_of z) c.args.m.now c.in_ok-have.have c.args.written.now c.type_at.new.found c.compare.new.found (Ok tt)) (c.in_ok-type_at.ensures.kept ∙ (c.in_ok-have.ensures.kept ∙ c.in_ok-locals.ensures)) c.in_ok-compare.ensures in
    let both = adds_then (adds_then j.1 t.1 refl) more.1 refl in
    written_whole (laws_entries c.args.signature.now) c.args.asked.place (site_of c.args.locals.now c.args.levels) c.args.m.now c.args.written.now c.in_ok-have.have j.0 t.0 more.0 c.in_ok-type_at.field-0 c.judged.result c.judged.ensures.within (measured_both (laws_entries c.args.signature.now) (site_of c.args.locals.now c.args.levels) c.args.m.now c.args.written.now c.in_ok-measure.field-0 c.in_ok-measure-2.field-0 c.in_ok-measure.ensures c.in_ok-measure-2.ensures) c.requires.written.levels_within j.2 t.2 more.2
    (judged_is c.judged.result c.args.written.now ((j.0 ++ t.0) ++ more.0) (c.args.levels + nodes c.args.m.now + nodes c.args.written.now) (c.judged.ensures.ty ∙ c.in_ok-share.ensures.same) (c.judged.ensures.constraints ∙ both.constraints ∙ ap (λ (z : List Constraint). z ++ ((j.0 ++ t.0) ++ more.0)) c.new-found.ensures.constraints) (let l = c.judged.ensures.levels in let k = both.levels in let n = c.new-found.ensures.levels in omega arith))
