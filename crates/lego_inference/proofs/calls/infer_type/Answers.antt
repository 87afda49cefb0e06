use Rattle.std.proofs.Common.{◌≡◌, ℕ, ◌+◌, ◌++◌, ◌∙◌, List, length, Ok, Err, refl, sym, ap, subst, arith}
use Rattle.std.proofs.lemmas.Result.{err_from_is_err_and}
use Rattle.lego_term.specs.Trees.{Core}
use Rattle.lego_level.specs.declared.constraint.Constraint.{Constraint}
use Rattle.lego_laws.specs.Places.{AType, Stated, Site, behind, AnyType, BeAType, OfType, OfWrittenType}
use Rattle.lego_laws.specs.RuleTypes.{nodes}
use Rattle.lego_laws.specs.Ranges.{sort_term}
use Rattle.lego_inference.specs.Causes.{IsWhole}
use Rattle.lego_inference.specs.Failures.{TypeFails}
use Rattle.lego_inference.specs.Calls.{task_over}
use Rattle.lego_inference.specs.Entries.{laws_entries}
use Rattle.lego_inference.specs.Locals.{site_of, types_of, binders_of}
use Rattle.lego_inference.specs.declared.locals.Local.{Local}
use Rattle.lego_inference.specs.private.Judging.{IsReady, Fails, FailsAt, Infers, FindsSort, ChecksAt, FindsHead, Compares, PairFails}
use Rattle.lego_inference.proofs.LocalLemmas.{length-map}
use Rattle.lego_inference.proofs.ReadyLemmas.{loose_of}
use Rattle.lego_inference.proofs.FailLemmas.{at_pair}
use Rattle.lego_inference.proofs.FormerRules.{type_shaped}
use Rattle.lego_inference.proofs.JudgeLemmas.{at_site, sort_found, few_names}
use Rattle.lego_inference.proofs.CallLemmas.{ready_whole, type_over, measured_fails, judged_is}
use Rattle.lego_inference.proofs.WholeLemmas.{is_new, measured_alone, is_begun, whole_fails, type_fails, check_fails, written_fails, against_fails, inferred_whole, type_whole, check_whole, written_whole}
use Rattle.lego_inference.proofs.calls.infer_type.Goals as goal

pub returns-in_err-locals : goal.returns-in_err-locals
returns-in_err-locals c =
    let e = err_from_is_err_and c.from_residual.result c.from_residual.ensures.1 in
    rw (e.1, e.2) (TypeFails.memory)

pub returns-in_err-measure : goal.returns-in_err-measure
returns-in_err-measure c =
    let e = err_from_is_err_and c.from_residual-in_err-measure.result c.from_residual-in_err-measure.ensures.1 in
    rw (e.1, e.2) (measured_fails c.args.asked.limit (task_over c.args.signature.now c.args.locals.now c.args.levels c.args.a.now BeAType) c.args.a.now c.in_err-measure.field-0.0 IsWhole.core c.in_err-measure.ensures)

pub judge-requires : goal.judge-requires
judge-requires c =
    (at_site (λ z. IsReady (laws_entries c.args.signature.now) z c.args.a.now) {l = c.args.locals.now} {n = c.args.levels} (sym c.in_ok-locals.ensures) (sym c.new-found.ensures.levels) (ready_whole c.args.signature.now c.args.locals.now c.args.levels c.args.a.now c.in_ok-measure.field-0 c.alloc-alloc.ensures c.requires.held c.requires.term c.in_ok-measure.ensures))

pub returns-in_err-ty : goal.returns-in_err-ty
returns-in_err-ty c =
    let e = err_from_is_err_and c.from_residual-in_err-ty.result c.from_residual-in_err-ty.ensures.1 in
    rw (e.1, e.2) (whole_fails (laws_entries c.args.signature.now) c.args.asked.limit (site_of c.args.locals.now c.args.levels) c.args.a.now c.in_err-ty.field-0.0 BeAType (is_begun (laws_entries c.args.signature.now) (site_of c.args.locals.now c.args.levels) c.args.a.now BeAType (is_new (laws_entries c.args.signature.now) (site_of c.args.locals.now c.args.levels) c.args.a.now BeAType c.requires.held.entries c.requires.held.types (let w = c.requires.term.levels_within in omega arith)) (measured_alone (laws_entries c.args.signature.now) (site_of c.args.locals.now c.args.levels) c.args.a.now BeAType c.in_ok-measure.field-0 (λ a e. cc) c.in_ok-measure.ensures)) (at_site (λ z. Fails (laws_entries c.args.signature.now) c.args.asked.limit z c.args.a.now c.in_err-ty.field-0.0) {l = c.in_ok-locals.locals} {n = c.new-found.result.levels} c.in_ok-locals.ensures c.new-found.ensures.levels c.in_err-ty.ensures.judged))

pub sort_of-requires : goal.sort_of-requires
sort_of-requires c =
    let l = loose_of (ready_whole c.args.signature.now c.args.locals.now c.args.levels c.args.a.now c.in_ok-measure.field-0 c.alloc-alloc.ensures c.requires.held c.requires.term c.in_ok-measure.ensures) (at_site (λ z. Infers (laws_entries c.args.signature.now) c.args.asked z c.args.a.now c.new-found.result c.judge.new.found (Ok c.in_ok-ty.ty)) {l = c.in_ok-locals.locals} {n = c.new-found.result.levels} c.in_ok-locals.ensures c.new-found.ensures.levels c.in_ok-ty.ensures.judged).2.rule in let k = few_names c.args.locals.now c.args.levels (ready_whole c.args.signature.now c.args.locals.now c.args.levels c.args.a.now c.in_ok-measure.field-0 c.alloc-alloc.ensures c.requires.held c.requires.term c.in_ok-measure.ensures) in omega (arith, length-map (λ (z : Local). z.ty) c.args.locals.now)

pub returns-in_err-sort_of : goal.returns-in_err-sort_of
returns-in_err-sort_of c =
    let e = err_from_is_err_and c.from_residual-in_err-sort_of.result c.from_residual-in_err-sort_of.ensures.1 in
    rw (e.1, e.2) (type_fails (laws_entries c.args.signature.now) c.args.asked.limit (site_of c.args.locals.now c.args.levels) c.args.a.now c.in_err-sort_of.field-0.0 (is_begun (laws_entries c.args.signature.now) (site_of c.args.locals.now c.args.levels) c.args.a.now BeAType (is_new (laws_entries c.args.signature.now) (site_of c.args.locals.now c.args.levels) c.args.a.now BeAType c.requires.held.entries c.requires.held.types (let w = c.requires.term.levels_within in omega arith)) (measured_alone (laws_entries c.args.signature.now) (site_of c.args.locals.now c.args.levels) c.args.a.now BeAType c.in_ok-measure.field-0 (λ a e. cc) c.in_ok-measure.ensures)) (sort_found (laws_entries c.args.signature.now) c.args.asked (site_of c.args.locals.now c.args.levels) c.args.a.now c.in_ok-ty.ty c.new-found.result c.judge.new.found (Err c.in_err-sort_of.field-0.0) c.alloc-alloc.ensures.bodies (at_site (λ z. Infers (laws_entries c.args.signature.now) c.args.asked z c.args.a.now c.new-found.result c.judge.new.found (Ok c.in_ok-ty.ty)) {l = c.in_ok-locals.locals} {n = c.new-found.result.levels} c.in_ok-locals.ensures c.new-found.ensures.levels c.in_ok-ty.ensures.judged) (subst (λ (z : List Local). FindsHead sort_term (laws_entries c.args.signature.now) c.args.asked (binders_of z) c.args.a.now AType c.in_ok-ty.ty (Err c.in_err-sort_of.field-0.0)) (c.in_ok-ty.ensures.kept ∙ c.in_ok-locals.ensures) c.in_err-sort_of.ensures)))

pub returns : goal.returns
returns c =
    let j = (at_site (λ z. Infers (laws_entries c.args.signature.now) c.args.asked z c.args.a.now c.new-found.result c.judge.new.found (Ok c.in_ok-ty.ty)) {l = c.in_ok-locals.locals} {n = c.new-found.result.levels} c.in_ok-locals.ensures c.new-found.ensures.levels c.in_ok-ty.ensures.judged) in
    type_whole (laws_entries c.args.signature.now) c.args.asked.place (site_of c.args.locals.now c.args.levels) c.args.a.now j.0 c.in_ok-ty.ty c.in_ok-sort_of.field-0 c.judged.result c.judged.ensures.within (measured_alone (laws_entries c.args.signature.now) (site_of c.args.locals.now c.args.levels) c.args.a.now BeAType c.in_ok-measure.field-0 (λ a e. cc) c.in_ok-measure.ensures) j.2 (type_over c.args.signature.now c.args.locals.now c.args.levels c.args.a.now c.in_ok-ty.ty c.in_ok-measure.field-0 c.alloc-alloc.ensures c.requires.held c.requires.term c.in_ok-measure.ensures j.2.rule) c.in_ok-sort_of.ensures
    (judged_is c.judged.result c.in_ok-ty.ty j.0 (c.args.levels + nodes c.args.a.now) c.judged.ensures.ty (c.judged.ensures.constraints ∙ j.1.constraints ∙ ap (λ (z : List Constraint). z ++ j.0) c.new-found.ensures.constraints) (c.judged.ensures.levels ∙ j.1.levels ∙ ap (λ (z : ℕ). z + nodes c.args.a.now) c.new-found.ensures.levels))
