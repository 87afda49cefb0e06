use Rattle.std.proofs.Common.{◌≡◌, ℕ, suc, ◌+◌, ◌∙◌, List, ◌∷◌, length, drop, Ok, Err, inl, inr, refl, sym, ap, subst, arith}
use Rattle.std.proofs.lemmas.Result.{err_from_is_err_and}
use Rattle.lego_term.specs.Trees.{Core, Var, Const, Prop, Univ, Pi, Lam, App, Sigma, Pair, Fst, Snd, Let, instantiate, loose}
use Rattle.lego_term.specs.Weight.{height}
use Rattle.lego_laws.specs.Places.{AType, AFunction, APair, Stated, Site, behind, under, Part, IsFormer}
use Rattle.lego_laws.specs.RuleTypes.{nodes}
use Rattle.lego_laws.specs.Ranges.{levels_bound, sort_term}
use Rattle.lego_term.proofs.LooseLemmas.{loose-instantiate}
use Rattle.lego_laws.proofs.lemmas.principal.SolvedCores.{heights, positive}
use Rattle.lego_inference.specs.Causes.{TakesLevel}
use Rattle.lego_inference.specs.Entries.{laws_entries}
use Rattle.lego_inference.specs.Locals.{site_of, types_of, binders_of, NamesEntries}
use Rattle.lego_inference.specs.declared.locals.Local.{Local}
use Rattle.lego_inference.specs.private.Judging.{IsReady, Fails, FailsAt, Infers, FindsSort, ChecksAt, FindsHead, Compares, PairFails, product_of, sigma_of}
use Rattle.lego_inference.proofs.LocalLemmas.{length-map}
use Rattle.lego_inference.proofs.ReadyLemmas.{ready_part, loose_of, loose_head}
use Rattle.lego_inference.proofs.ShapeLemmas.{none_before}
use Rattle.lego_inference.proofs.FailLemmas.{fails_part, fails_at_part, fails_memory, at_any}
use Rattle.lego_inference.proofs.JudgeLemmas.{at_site, made_infers, prop_infers, variable_infers, constant_infers, universe_infers, level_fails, product_infers, sigma_infers, first_infers, second_infers, sort_found, pair_found, compared, under_code, under_rule, on_any, ready_product, ready_first, few_names, then_kept}
use Rattle.lego_inference.proofs.ArmLemmas.{lambda_body_fails, lambda_infers, domain_fails, body_fails, forms, function_unfit, argument_fails, application_infers, put_fails, local_body_fails, local_finish, pair_body_fails, pair_first_fails, pair_second_fails, pair_stated_fails, pair_compare_fails, pair_infers}
use Rattle.lego_inference.proofs.judge.+judge.Goals as goal

pub type_at-judge-requires : goal.type_at-judge-requires
type_at-judge-requires t c =
    let falls = c.decreases in (omega arith, c.requires)

pub type_at-returns-in_err-ty-clause-sort : goal.type_at-returns-in_err-ty-clause-sort
type_at-returns-in_err-ty-clause-sort t c =
    let e = err_from_is_err_and c.from_residual.result c.from_residual.ensures.1 in
    rw (e.1, e.2) (at_any AType c.in_err-ty.ensures.judged)

pub type_at-sort_of-requires : goal.type_at-sort_of-requires
type_at-sort_of-requires t c =
    let l = loose_of c.requires c.in_ok-ty.ensures.judged.2.rule in let f = few_names c.args.locals.now c.args.found.now.levels c.requires in omega (arith, length-map (λ (z : Local). z.ty) c.args.locals.now)

pub type_at-returns-clause-sort : goal.type_at-returns-clause-sort
type_at-returns-clause-sort t c =
    sort_found (laws_entries c.args.setting.now.signature.now) c.args.setting.now.asked (site_of c.args.locals.now c.args.found.now.levels) c.args.a.now c.in_ok-ty.ty c.args.found.now c.judge.new.found c.sort_of.result c.requires.closed.bodies c.in_ok-ty.ensures.judged
    (subst (λ (z : List Local). FindsHead sort_term (laws_entries c.args.setting.now.signature.now) c.args.setting.now.asked (binders_of z) c.args.a.now AType c.in_ok-ty.ty c.sort_of.result) c.in_ok-ty.ensures.kept c.sort_of.ensures)

pub type_at-returns-clause-kept : goal.type_at-returns-clause-kept
type_at-returns-clause-kept t c =
    on_any c.sort_of.result c.in_ok-ty.ensures.kept

pub checked-judge-requires : goal.checked-judge-requires
checked-judge-requires t c =
    let falls = c.decreases in (omega arith, c.requires.ready)

pub checked-returns-in_err-have-clause-judged : goal.checked-returns-in_err-have-clause-judged
checked-returns-in_err-have-clause-judged t c =
    let e = err_from_is_err_and c.from_residual.result c.from_residual.ensures.1 in
    rw (e.1, e.2) (at_any (Stated c.args.want.now) c.in_err-have.ensures.judged)

pub checked-compare-requires-clause-left : goal.checked-compare-requires-clause-left
checked-compare-requires-clause-left t c =
    let l = loose_of c.requires.ready c.in_ok-have.ensures.judged.2.rule in let f = few_names c.args.locals.now c.args.found.now.levels c.requires.ready in omega (arith, length-map (λ (z : Local). z.ty) c.args.locals.now)

pub checked-compare-requires-clause-right : goal.checked-compare-requires-clause-right
checked-compare-requires-clause-right t c =
    let l = c.requires.stated in let f = few_names c.args.locals.now c.args.found.now.levels c.requires.ready in omega arith

pub checked-returns-clause-judged : goal.checked-returns-clause-judged
checked-returns-clause-judged t c =
    compared (laws_entries c.args.setting.now.signature.now) c.args.setting.now.asked (site_of c.args.locals.now c.args.found.now.levels) c.args.m.now c.in_ok-have.have c.args.want.now c.args.found.now c.judge.new.found c.compare.new.found c.compare.result c.requires.ready.closed.bodies c.in_ok-have.ensures.judged
    (subst (λ (z : List Local). Compares (laws_entries c.args.setting.now.signature.now) c.args.setting.now.asked (binders_of z) c.args.m.now c.in_ok-have.have c.args.want.now c.judge.new.found c.compare.new.found c.compare.result) c.in_ok-have.ensures.kept c.compare.ensures)

pub checked-returns-clause-kept : goal.checked-returns-clause-kept
checked-returns-clause-kept t c =
    on_any c.compare.result c.in_ok-have.ensures.kept

pub projected-judge-requires : goal.projected-judge-requires
projected-judge-requires t c =
    let falls = c.decreases in (omega arith, ready_part c.requires (Part.fst_operand {w = AType}))

pub projected-returns-in_err-ty-clause-judged : goal.projected-returns-in_err-ty-clause-judged
projected-returns-in_err-ty-clause-judged t c =
    let e = err_from_is_err_and c.from_residual.result c.from_residual.ensures.1 in
    rw (e.1, e.2) ((fails_part Part.fst_operand none_before c.in_err-ty.ensures.judged, fails_part Part.snd_operand none_before c.in_err-ty.ensures.judged))

pub projected-sigma_of-requires : goal.projected-sigma_of-requires
projected-sigma_of-requires t c =
    let l = loose_of (ready_part c.requires (Part.fst_operand {w = AType})) c.in_ok-ty.ensures.judged.2.rule in let f = few_names c.args.locals.now c.args.found.now.levels c.requires in omega (arith, length-map (λ (z : Local). z.ty) c.args.locals.now)

pub projected-returns-clause-judged : goal.projected-returns-clause-judged
projected-returns-clause-judged t c =
    pair_found (laws_entries c.args.setting.now.signature.now) c.args.setting.now.asked (site_of c.args.locals.now c.args.found.now.levels) c.args.of.now c.in_ok-ty.ty c.args.found.now c.judge.new.found c.sigma_of.result c.requires.closed.bodies c.in_ok-ty.ensures.judged
    (subst (λ (z : List Local). FindsHead sigma_of (laws_entries c.args.setting.now.signature.now) c.args.setting.now.asked (binders_of z) c.args.of.now APair c.in_ok-ty.ty c.sigma_of.result) c.in_ok-ty.ensures.kept c.sigma_of.ensures)

pub projected-returns-clause-kept : goal.projected-returns-clause-kept
projected-returns-clause-kept t c =
    on_any c.sigma_of.result c.in_ok-ty.ensures.kept

pub type_under-push-requires : goal.type_under-push-requires
type_under-push-requires t c =
    let f = few_names (record { binder = c.args.bound.now.binder; ty = c.args.bound.now.domain.now } ∷ c.args.locals.now) c.args.found.now.levels c.requires in omega arith

pub type_under-returns-in_err-push-clause-sort : goal.type_under-returns-in_err-push-clause-sort
type_under-returns-in_err-push-clause-sort t c =
    let e = err_from_is_err_and c.from_residual.result c.from_residual.ensures.1 in
    rw (e.1, e.2) (at_any AType fails_memory)

pub type_under-type_at-requires : goal.type_under-type_at-requires
type_under-type_at-requires t c =
    let falls = c.decreases in (omega arith, at_site (λ z. IsReady (laws_entries c.args.setting.now.signature.now) z c.args.bound.now.body.now) {l = (record { binder = c.args.bound.now.binder; ty = c.args.bound.now.domain.now } ∷ c.args.locals.now)} {n = c.args.found.now.levels} (sym c.in_ok-push.ensures.ok) refl c.requires)

pub type_under-returns-in_err-sort-clause-sort : goal.type_under-returns-in_err-sort-clause-sort
type_under-returns-in_err-sort-clause-sort t c =
    let e = err_from_is_err_and c.from_residual-in_err-sort.result c.from_residual-in_err-sort.ensures.1 in
    rw (e.1, e.2) (at_site (λ z. FailsAt (laws_entries c.args.setting.now.signature.now) c.args.setting.now.asked.limit z c.args.bound.now.body.now AType c.in_err-sort.field-0.0) {l = c.push.new.self} {n = c.args.found.now.levels} c.in_ok-push.ensures.ok refl c.in_err-sort.ensures.sort)

pub type_under-pop-requires : goal.type_under-pop-requires
type_under-pop-requires t c =
    let k = ap (λ (z : List Local). length z) (c.in_ok-sort.ensures.kept ∙ c.in_ok-push.ensures.ok) in omega arith

pub type_under-returns-clause-sort : goal.type_under-returns-clause-sort
type_under-returns-clause-sort t c =
    at_site (λ z. FindsSort (laws_entries c.args.setting.now.signature.now) c.args.setting.now.asked z c.args.bound.now.body.now c.args.found.now c.type_at.new.found (Ok c.in_ok-sort.sort)) {l = c.push.new.self} {n = c.args.found.now.levels} c.in_ok-push.ensures.ok refl c.in_ok-sort.ensures.sort

pub type_under-returns-clause-kept : goal.type_under-returns-clause-kept
type_under-returns-clause-kept t c =
    c.pop.ensures ∙ ap (λ (z : List Local). drop 1 z) (c.in_ok-sort.ensures.kept ∙ c.in_ok-push.ensures.ok)

pub formed-type_at-requires : goal.formed-type_at-requires
formed-type_at-requires t c =
    let falls = c.decreases in (omega arith, at_site (λ z. IsReady (laws_entries c.args.setting.now.signature.now) z c.args.bound.now.domain.now) {l = c.args.locals.now} {n = c.args.found.now.levels + 1} refl (sym c.in_ok-own.ensures.next) (ready_part c.requires (Part.pi_domain {w = AType})))

pub formed-returns-in_err-own-clause-parts : goal.formed-returns-in_err-own-clause-parts
formed-returns-in_err-own-clause-parts t c =
    let e = err_from_is_err_and c.from_residual.result c.from_residual.ensures.1 in
    rw (e.1, e.2) (
      level_fails (laws_entries c.args.setting.now.signature.now) c.args.setting.now.asked (site_of c.args.locals.now c.args.found.now.levels) (Pi c.args.bound.now.binder c.args.bound.now.domain.now c.args.bound.now.body.now) c.in_err-own.field-0.0 (TakesLevel.former IsFormer.a_product) (inr (c.in_err-own.ensures.fault, c.in_err-own.ensures.full)),
      level_fails (laws_entries c.args.setting.now.signature.now) c.args.setting.now.asked (site_of c.args.locals.now c.args.found.now.levels) (Sigma c.args.bound.now.binder c.args.bound.now.domain.now c.args.bound.now.body.now) c.in_err-own.field-0.0 (TakesLevel.former IsFormer.a_sigma) (inr (c.in_err-own.ensures.fault, c.in_err-own.ensures.full)),
    )

pub formed-returns-in_err-domain-clause-parts : goal.formed-returns-in_err-domain-clause-parts
formed-returns-in_err-domain-clause-parts t c =
    let e = err_from_is_err_and c.from_residual-in_err-domain.result c.from_residual-in_err-domain.ensures.1 in
    rw (e.1, e.2) (domain_fails (laws_entries c.args.setting.now.signature.now) c.args.setting.now.asked (site_of c.args.locals.now c.args.found.now.levels) c.args.bound.now.binder c.args.bound.now.domain.now c.args.bound.now.body.now c.in_err-domain.field-0.0 (at_site (λ z. FailsAt (laws_entries c.args.setting.now.signature.now) c.args.setting.now.asked.limit z c.args.bound.now.domain.now AType c.in_err-domain.field-0.0) {l = c.args.locals.now} {n = c.take_level.new.self.levels} refl c.in_ok-own.ensures.next c.in_err-domain.ensures.sort))

pub formed-type_under-requires : goal.formed-type_under-requires
formed-type_under-requires t c =
    let falls = c.decreases in (omega arith, under_code (λ z. IsReady (laws_entries c.args.setting.now.signature.now) z c.args.bound.now.body.now) c.args.bound.now.binder c.args.bound.now.domain.now c.args.locals.now c.type_at.new.locals (record { binder = c.args.bound.now.binder; ty = c.args.bound.now.domain.now } ∷ c.type_at.new.locals) (c.args.found.now.levels + 1) c.type_at.new.found.levels c.in_ok-domain.ensures.kept refl (c.in_ok-domain.ensures.sort.1.levels ∙ ap (λ (z : ℕ). z + nodes c.args.bound.now.domain.now) c.in_ok-own.ensures.next) (ready_part c.requires (Part.pi_body {w = AType})))

pub formed-returns-in_err-body-clause-parts : goal.formed-returns-in_err-body-clause-parts
formed-returns-in_err-body-clause-parts t c =
    let e = err_from_is_err_and c.from_residual-in_err-body.result c.from_residual-in_err-body.ensures.1 in
    rw (e.1, e.2) (body_fails (laws_entries c.args.setting.now.signature.now) c.args.setting.now.asked (site_of c.args.locals.now c.args.found.now.levels) c.args.bound.now.binder c.args.bound.now.domain.now c.args.bound.now.body.now c.take_level.new.self c.type_at.new.found c.in_ok-domain.domain (at_site (λ z. FindsSort (laws_entries c.args.setting.now.signature.now) c.args.setting.now.asked z c.args.bound.now.domain.now c.take_level.new.self c.type_at.new.found (Ok c.in_ok-domain.domain)) {l = c.args.locals.now} {n = c.take_level.new.self.levels} refl c.in_ok-own.ensures.next c.in_ok-domain.ensures.sort) c.in_err-body.field-0.0 (under_rule (λ z. FailsAt (laws_entries c.args.setting.now.signature.now) c.args.setting.now.asked.limit z c.args.bound.now.body.now AType c.in_err-body.field-0.0) c.args.bound.now.binder c.args.bound.now.domain.now c.args.locals.now c.type_at.new.locals (record { binder = c.args.bound.now.binder; ty = c.args.bound.now.domain.now } ∷ c.type_at.new.locals) (c.args.found.now.levels + 1) c.type_at.new.found.levels c.in_ok-domain.ensures.kept refl (c.in_ok-domain.ensures.sort.1.levels ∙ ap (λ (z : ℕ). z + nodes c.args.bound.now.domain.now) c.in_ok-own.ensures.next) c.in_err-body.ensures.sort))

pub formed-returns-clause-parts : goal.formed-returns-clause-parts
formed-returns-clause-parts t c =
    forms (laws_entries c.args.setting.now.signature.now) c.args.setting.now.asked (site_of c.args.locals.now c.args.found.now.levels) c.args.bound.now.binder c.args.bound.now.domain.now c.args.bound.now.body.now c.take_level.new.self c.type_at.new.found c.in_ok-domain.domain (at_site (λ z. FindsSort (laws_entries c.args.setting.now.signature.now) c.args.setting.now.asked z c.args.bound.now.domain.now c.take_level.new.self c.type_at.new.found (Ok c.in_ok-domain.domain)) {l = c.args.locals.now} {n = c.take_level.new.self.levels} refl c.in_ok-own.ensures.next c.in_ok-domain.ensures.sort) c.args.found.now c.type_under.new.found c.in_ok-own.own c.in_ok-body.body c.in_ok-own.ensures.level (ap (λ z. z.items) c.take_level.ensures.constraints) c.in_ok-own.ensures.next
    (under_rule (λ z. FindsSort (laws_entries c.args.setting.now.signature.now) c.args.setting.now.asked z c.args.bound.now.body.now c.type_at.new.found c.type_under.new.found (Ok c.in_ok-body.body)) c.args.bound.now.binder c.args.bound.now.domain.now c.args.locals.now c.type_at.new.locals (record { binder = c.args.bound.now.binder; ty = c.args.bound.now.domain.now } ∷ c.type_at.new.locals) (c.args.found.now.levels + 1) c.type_at.new.found.levels c.in_ok-domain.ensures.kept refl (c.in_ok-domain.ensures.sort.1.levels ∙ ap (λ (z : ℕ). z + nodes c.args.bound.now.domain.now) c.in_ok-own.ensures.next) c.in_ok-body.ensures.sort)

pub formed-returns-clause-kept : goal.formed-returns-clause-kept
formed-returns-clause-kept t c =
    c.in_ok-body.ensures.kept ∙ c.in_ok-domain.ensures.kept

pub abstraction-type_at-requires : goal.abstraction-type_at-requires
abstraction-type_at-requires t c =
    let falls = c.decreases in (omega arith, ready_part c.requires (Part.lam_domain {w = AType}))

pub abstraction-returns-in_err-type_at-clause-judged : goal.abstraction-returns-in_err-type_at-clause-judged
abstraction-returns-in_err-type_at-clause-judged t c =
    let e = err_from_is_err_and c.from_residual.result c.from_residual.ensures.1 in
    rw (e.1, e.2) (fails_at_part Part.lam_domain none_before c.in_err-type_at.ensures.sort)

pub abstraction-push-requires : goal.abstraction-push-requires
abstraction-push-requires t c =
    let f = few_names c.args.locals.now c.args.found.now.levels c.requires in let k = ap (λ (z : List Local). length z) c.in_ok-type_at.ensures.kept in omega arith

pub abstraction-returns-in_err-push-clause-judged : goal.abstraction-returns-in_err-push-clause-judged
abstraction-returns-in_err-push-clause-judged t c =
    let e = err_from_is_err_and c.from_residual-in_err-push.result c.from_residual-in_err-push.ensures.1 in
    rw (e.1, e.2) (fails_memory)

pub abstraction-judge-requires : goal.abstraction-judge-requires
abstraction-judge-requires t c =
    let falls = c.decreases in (omega arith, under_code (λ z. IsReady (laws_entries c.args.setting.now.signature.now) z c.args.bound.now.body.now) c.args.bound.now.binder c.args.bound.now.domain.now c.args.locals.now c.type_at.new.locals c.push.new.self c.args.found.now.levels c.type_at.new.found.levels c.in_ok-type_at.ensures.kept c.in_ok-push.ensures.ok c.in_ok-type_at.ensures.sort.1.levels (ready_part c.requires (Part.lam_body {w = AType})))

pub abstraction-returns-in_err-body-clause-judged : goal.abstraction-returns-in_err-body-clause-judged
abstraction-returns-in_err-body-clause-judged t c =
    let e = err_from_is_err_and c.from_residual-in_err-body.result c.from_residual-in_err-body.ensures.1 in
    rw (e.1, e.2) (lambda_body_fails (laws_entries c.args.setting.now.signature.now) c.args.setting.now.asked (site_of c.args.locals.now c.args.found.now.levels) c.args.bound.now.binder c.args.bound.now.domain.now c.args.bound.now.body.now c.args.found.now c.type_at.new.found c.in_ok-type_at.field-0 c.in_ok-type_at.ensures.sort c.in_err-body.field-0.0 (under_rule (λ z. Fails (laws_entries c.args.setting.now.signature.now) c.args.setting.now.asked.limit z c.args.bound.now.body.now c.in_err-body.field-0.0) c.args.bound.now.binder c.args.bound.now.domain.now c.args.locals.now c.type_at.new.locals c.push.new.self c.args.found.now.levels c.type_at.new.found.levels c.in_ok-type_at.ensures.kept c.in_ok-push.ensures.ok c.in_ok-type_at.ensures.sort.1.levels c.in_err-body.ensures.judged))

pub abstraction-pop-requires : goal.abstraction-pop-requires
abstraction-pop-requires t c =
    let k = ap (λ (z : List Local). length z) (c.in_ok-body.ensures.kept ∙ c.in_ok-push.ensures.ok) in omega arith

pub abstraction-returns-clause-judged : goal.abstraction-returns-clause-judged
abstraction-returns-clause-judged t c =
    lambda_infers (laws_entries c.args.setting.now.signature.now) c.args.setting.now.asked (site_of c.args.locals.now c.args.found.now.levels) c.args.bound.now.binder c.args.bound.now.domain.now c.args.bound.now.body.now c.args.found.now c.type_at.new.found c.in_ok-type_at.field-0 c.in_ok-type_at.ensures.sort c.in_ok-body.body c.judge.new.found c.product.result c.requires (under_rule (λ z. Infers (laws_entries c.args.setting.now.signature.now) c.args.setting.now.asked z c.args.bound.now.body.now c.type_at.new.found c.judge.new.found (Ok c.in_ok-body.body)) c.args.bound.now.binder c.args.bound.now.domain.now c.args.locals.now c.type_at.new.locals c.push.new.self c.args.found.now.levels c.type_at.new.found.levels c.in_ok-type_at.ensures.kept c.in_ok-push.ensures.ok c.in_ok-type_at.ensures.sort.1.levels c.in_ok-body.ensures.judged) c.product.ensures

pub abstraction-returns-clause-kept : goal.abstraction-returns-clause-kept
abstraction-returns-clause-kept t c =
    on_any c.product.result (c.pop.ensures ∙ ap (λ (z : List Local). drop 1 z) (c.in_ok-body.ensures.kept ∙ c.in_ok-push.ensures.ok) ∙ c.in_ok-type_at.ensures.kept)

pub application-judge-requires : goal.application-judge-requires
application-judge-requires t c =
    let falls = c.decreases in (omega arith, ready_part c.requires (Part.function {w = AType}))

pub application-returns-in_err-ty-clause-judged : goal.application-returns-in_err-ty-clause-judged
application-returns-in_err-ty-clause-judged t c =
    let e = err_from_is_err_and c.from_residual.result c.from_residual.ensures.1 in
    rw (e.1, e.2) (fails_part Part.function none_before c.in_err-ty.ensures.judged)

pub application-product_of-requires : goal.application-product_of-requires
application-product_of-requires t c =
    let l = loose_of (ready_part c.requires (Part.function {w = AType})) c.in_ok-ty.ensures.judged.2.rule in let g = few_names c.args.locals.now c.args.found.now.levels c.requires in omega (arith, length-map (λ (z : Local). z.ty) c.args.locals.now)

pub application-returns-in_err-former-clause-judged : goal.application-returns-in_err-former-clause-judged
application-returns-in_err-former-clause-judged t c =
    let e = err_from_is_err_and c.from_residual-in_err-former.result c.from_residual-in_err-former.ensures.1 in
    rw (e.1, e.2) (function_unfit (laws_entries c.args.setting.now.signature.now) c.args.setting.now.asked (site_of c.args.locals.now c.args.found.now.levels) c.args.mark c.args.function.now c.args.argument.now c.args.found.now c.judge.new.found c.in_ok-ty.ty c.in_ok-ty.ensures.judged c.in_err-former.field-0.0 c.requires.closed.bodies (subst (λ (z : List Local). FindsHead product_of (laws_entries c.args.setting.now.signature.now) c.args.setting.now.asked (binders_of z) c.args.function.now AFunction c.in_ok-ty.ty (Err c.in_err-former.field-0.0)) c.in_ok-ty.ensures.kept c.in_err-former.ensures))

pub application-checked-requires : goal.application-checked-requires
application-checked-requires t c =
    let falls = c.decreases in
    let l = loose_head (ready_part c.requires (Part.function {w = AType})) c.in_ok-ty.ensures.judged.2.rule c.in_ok-former.ensures in
    let m = ap (λ (z : List Local). length z) c.in_ok-ty.ensures.kept in
    (omega arith, (at_site (λ z. IsReady (laws_entries c.args.setting.now.signature.now) z c.args.argument.now) {l = c.args.locals.now} {n = c.args.found.now.levels + nodes c.args.function.now} (sym c.in_ok-ty.ensures.kept) (sym c.in_ok-ty.ensures.judged.1.levels) (ready_part c.requires (Part.argument {w = AType} c.in_ok-ty.ensures.judged.2.rule c.in_ok-former.ensures)), omega (arith, length-map (λ (z : Local). z.ty) c.args.locals.now)))

pub application-returns-in_err-checked-clause-judged : goal.application-returns-in_err-checked-clause-judged
application-returns-in_err-checked-clause-judged t c =
    let e = err_from_is_err_and c.from_residual-in_err-checked.result c.from_residual-in_err-checked.ensures.1 in
    rw (e.1, e.2) (argument_fails (laws_entries c.args.setting.now.signature.now) c.args.setting.now.asked (site_of c.args.locals.now c.args.found.now.levels) c.args.mark c.args.function.now c.args.argument.now c.args.found.now c.judge.new.found c.in_ok-ty.ty c.in_ok-ty.ensures.judged c.in_ok-former.former c.in_ok-former.ensures c.in_err-checked.field-0.0 (at_site (λ z. FailsAt (laws_entries c.args.setting.now.signature.now) c.args.setting.now.asked.limit z c.args.argument.now (Stated c.in_ok-former.former.domain) c.in_err-checked.field-0.0) {l = c.judge.new.locals} {n = c.judge.new.found.levels} c.in_ok-ty.ensures.kept c.in_ok-ty.ensures.judged.1.levels c.in_err-checked.ensures.judged))

pub application-instance-requires : goal.application-instance-requires
application-instance-requires t c =
    let v = c.requires.over.variables in let g = few_names c.args.locals.now c.args.found.now.levels c.requires in omega (arith, length-map (λ (z : Local). z.ty) c.args.locals.now)

pub application-returns-clause-judged : goal.application-returns-clause-judged
application-returns-clause-judged t c =
    application_infers (laws_entries c.args.setting.now.signature.now) c.args.setting.now.asked (site_of c.args.locals.now c.args.found.now.levels) c.args.mark c.args.function.now c.args.argument.now c.args.found.now c.judge.new.found c.in_ok-ty.ty c.in_ok-ty.ensures.judged c.in_ok-former.former c.in_ok-former.ensures c.checked.new.found c.instance.result c.requires (at_site (λ z. ChecksAt (laws_entries c.args.setting.now.signature.now) c.args.setting.now.asked z c.args.argument.now c.in_ok-former.former.domain c.judge.new.found c.checked.new.found (Ok tt)) {l = c.judge.new.locals} {n = c.judge.new.found.levels} c.in_ok-ty.ensures.kept c.in_ok-ty.ensures.judged.1.levels c.in_ok-checked.ensures.judged) c.instance.ensures

pub application-returns-clause-kept : goal.application-returns-clause-kept
application-returns-clause-kept t c =
    on_any c.instance.result (c.in_ok-checked.ensures.kept ∙ c.in_ok-ty.ensures.kept)

pub local-judge-requires : goal.local-judge-requires
local-judge-requires t c =
    let falls = c.decreases in (omega arith, ready_part c.requires (Part.local_value {w = AType}))

pub local-returns-in_err-judge-clause-judged : goal.local-returns-in_err-judge-clause-judged
local-returns-in_err-judge-clause-judged t c =
    let e = err_from_is_err_and c.from_residual.result c.from_residual.ensures.1 in
    rw (e.1, e.2) (fails_part Part.local_value none_before c.in_err-judge.ensures.judged)

pub local-instance-requires : goal.local-instance-requires
local-instance-requires t c =
    let w = c.requires.over.variables in let g = few_names c.args.locals.now c.args.found.now.levels c.requires in omega (arith, length-map (λ (z : Local). z.ty) c.args.locals.now)

pub local-returns-in_err-with_value-clause-judged : goal.local-returns-in_err-with_value-clause-judged
local-returns-in_err-with_value-clause-judged t c =
    let e = err_from_is_err_and c.from_residual-in_err-with_value.result c.from_residual-in_err-with_value.ensures.1 in
    rw (e.1, e.2) (put_fails (laws_entries c.args.setting.now.signature.now) c.args.setting.now.asked (site_of c.args.locals.now c.args.found.now.levels) c.args.binder c.args.value.now c.args.body.now c.args.found.now c.judge.new.found c.in_ok-judge.field-0 c.in_ok-judge.ensures.judged c.in_err-with_value.field-0.0 c.in_err-with_value.ensures)

pub local-judge-requires-2 : goal.local-judge-requires-2
local-judge-requires-2 t c =
    let falls = c.decreases in
    let is = c.in_ok-with_value.ensures in
    let same = ap (λ (z : Core). height z) is in (
      omega arith,
      at_site (λ z. IsReady (laws_entries c.args.setting.now.signature.now) z c.in_ok-with_value.with_value) {l = c.args.locals.now} {n = c.args.found.now.levels + nodes c.args.value.now} (sym c.in_ok-judge.ensures.kept) (sym c.in_ok-judge.ensures.judged.1.levels)
          (subst (IsReady (laws_entries c.args.setting.now.signature.now) (behind (nodes c.args.value.now) (site_of c.args.locals.now c.args.found.now.levels))) (sym is) (ready_part c.requires (Part.local_body {w = AType}))),
    )

pub local-returns-clause-judged : goal.local-returns-clause-judged
local-returns-clause-judged t c =
    local_finish (laws_entries c.args.setting.now.signature.now) c.args.setting.now.asked (site_of c.args.locals.now c.args.found.now.levels) c.args.binder c.args.value.now c.args.body.now c.args.found.now c.judge.new.found c.in_ok-judge.field-0 c.in_ok-judge.ensures.judged c.judge-2.new.found c.judge-2.result c.requires
    (subst (λ (z : Core). Infers (laws_entries c.args.setting.now.signature.now) c.args.setting.now.asked (behind (nodes c.args.value.now) (site_of c.args.locals.now c.args.found.now.levels)) z c.judge.new.found c.judge-2.new.found c.judge-2.result) c.in_ok-with_value.ensures
    (at_site (λ z. Infers (laws_entries c.args.setting.now.signature.now) c.args.setting.now.asked z c.in_ok-with_value.with_value c.judge.new.found c.judge-2.new.found c.judge-2.result) {l = c.judge.new.locals} {n = c.judge.new.found.levels} c.in_ok-judge.ensures.kept c.in_ok-judge.ensures.judged.1.levels c.judge-2.ensures.judged))

pub local-returns-clause-kept : goal.local-returns-clause-kept
local-returns-clause-kept t c =
    then_kept c.judge-2.new.locals c.judge.new.locals c.args.locals.now c.judge-2.result c.judge-2.ensures.kept c.in_ok-judge.ensures.kept

pub pair-type_at-requires : goal.pair-type_at-requires
pair-type_at-requires t c =
    let falls = c.decreases in (omega arith, ready_part c.requires (Part.pair_domain {w = AType}))

pub pair-returns-in_err-type_at-clause-judged : goal.pair-returns-in_err-type_at-clause-judged
pair-returns-in_err-type_at-clause-judged t c =
    let e = err_from_is_err_and c.from_residual.result c.from_residual.ensures.1 in
    rw (e.1, e.2) (fails_at_part Part.pair_domain none_before c.in_err-type_at.ensures.sort)

pub pair-type_under-requires : goal.pair-type_under-requires
pair-type_under-requires t c =
    let falls = c.decreases in (omega arith, under_code (λ z. IsReady (laws_entries c.args.setting.now.signature.now) z c.args.bound.now.body.now) c.args.bound.now.binder c.args.bound.now.domain.now c.args.locals.now c.type_at.new.locals (record { binder = c.args.bound.now.binder; ty = c.args.bound.now.domain.now } ∷ c.type_at.new.locals) c.args.found.now.levels c.type_at.new.found.levels c.in_ok-type_at.ensures.kept refl c.in_ok-type_at.ensures.sort.1.levels (ready_part c.requires (Part.pair_body {w = AType})))

pub pair-returns-in_err-type_under-clause-judged : goal.pair-returns-in_err-type_under-clause-judged
pair-returns-in_err-type_under-clause-judged t c =
    let e = err_from_is_err_and c.from_residual-in_err-type_under.result c.from_residual-in_err-type_under.ensures.1 in
    rw (e.1, e.2) (pair_body_fails (laws_entries c.args.setting.now.signature.now) c.args.setting.now.asked (site_of c.args.locals.now c.args.found.now.levels) c.args.bound.now.binder c.args.bound.now.domain.now c.args.bound.now.body.now c.args.first.now c.args.second.now c.args.found.now c.type_at.new.found c.in_ok-type_at.field-0 c.in_ok-type_at.ensures.sort c.in_err-type_under.field-0.0 (under_rule (λ z. FailsAt (laws_entries c.args.setting.now.signature.now) c.args.setting.now.asked.limit z c.args.bound.now.body.now AType c.in_err-type_under.field-0.0) c.args.bound.now.binder c.args.bound.now.domain.now c.args.locals.now c.type_at.new.locals (record { binder = c.args.bound.now.binder; ty = c.args.bound.now.domain.now } ∷ c.type_at.new.locals) c.args.found.now.levels c.type_at.new.found.levels c.in_ok-type_at.ensures.kept refl c.in_ok-type_at.ensures.sort.1.levels c.in_err-type_under.ensures.sort))

pub pair-checked-requires : goal.pair-checked-requires
pair-checked-requires t c =
    let falls = c.decreases in
    let two : c.type_under.new.found.levels ≡ c.args.found.now.levels + (nodes c.args.bound.now.domain.now + nodes c.args.bound.now.body.now) = (let i = c.in_ok-type_at.ensures.sort.1.levels in let j = c.in_ok-type_under.ensures.sort.1.levels in omega arith) in
    let v = c.requires.over.variables in
    let m = ap (λ (z : List Local). length z) (c.in_ok-type_under.ensures.kept ∙ c.in_ok-type_at.ensures.kept) in
    (omega arith, (at_site (λ z. IsReady (laws_entries c.args.setting.now.signature.now) z c.args.first.now) {l = c.args.locals.now} {n = c.args.found.now.levels + (nodes c.args.bound.now.domain.now + nodes c.args.bound.now.body.now)} (sym (c.in_ok-type_under.ensures.kept ∙ c.in_ok-type_at.ensures.kept)) (sym two) (ready_part c.requires (Part.pair_first {w = AType})), omega (arith, length-map (λ (z : Local). z.ty) c.args.locals.now)))

pub pair-returns-in_err-checked-clause-judged : goal.pair-returns-in_err-checked-clause-judged
pair-returns-in_err-checked-clause-judged t c =
    let e = err_from_is_err_and c.from_residual-in_err-checked.result c.from_residual-in_err-checked.ensures.1 in
    rw (e.1, e.2) (pair_first_fails (laws_entries c.args.setting.now.signature.now) c.args.setting.now.asked (site_of c.args.locals.now c.args.found.now.levels) c.args.bound.now.binder c.args.bound.now.domain.now c.args.bound.now.body.now c.args.first.now c.args.second.now c.args.found.now c.type_at.new.found c.in_ok-type_at.field-0 c.in_ok-type_at.ensures.sort c.type_under.new.found c.in_ok-type_under.field-0 (under_rule (λ z. FindsSort (laws_entries c.args.setting.now.signature.now) c.args.setting.now.asked z c.args.bound.now.body.now c.type_at.new.found c.type_under.new.found (Ok c.in_ok-type_under.field-0)) c.args.bound.now.binder c.args.bound.now.domain.now c.args.locals.now c.type_at.new.locals (record { binder = c.args.bound.now.binder; ty = c.args.bound.now.domain.now } ∷ c.type_at.new.locals) c.args.found.now.levels c.type_at.new.found.levels c.in_ok-type_at.ensures.kept refl c.in_ok-type_at.ensures.sort.1.levels c.in_ok-type_under.ensures.sort) c.in_err-checked.field-0.0 (at_site (λ z. FailsAt (laws_entries c.args.setting.now.signature.now) c.args.setting.now.asked.limit z c.args.first.now (Stated c.args.bound.now.domain.now) c.in_err-checked.field-0.0) {l = c.type_under.new.locals} {l' = c.args.locals.now} {n = c.type_under.new.found.levels} {n' = c.args.found.now.levels + (nodes c.args.bound.now.domain.now + nodes c.args.bound.now.body.now)} (c.in_ok-type_under.ensures.kept ∙ c.in_ok-type_at.ensures.kept) (let i = c.in_ok-type_at.ensures.sort.1.levels in let j = c.in_ok-type_under.ensures.sort.1.levels in omega arith) c.in_err-checked.ensures.judged))

pub pair-judge-requires : goal.pair-judge-requires
pair-judge-requires t c =
    let falls = c.decreases in
    let three : c.checked.new.found.levels ≡ c.args.found.now.levels + (nodes c.args.bound.now.domain.now + nodes c.args.bound.now.body.now + nodes c.args.first.now) = (let i = c.in_ok-type_at.ensures.sort.1.levels in let j = c.in_ok-type_under.ensures.sort.1.levels in let k = c.in_ok-checked.ensures.judged.1.levels in omega arith) in
    (omega arith, at_site (λ z. IsReady (laws_entries c.args.setting.now.signature.now) z c.args.second.now) {l = c.args.locals.now} {n = c.args.found.now.levels + (nodes c.args.bound.now.domain.now + nodes c.args.bound.now.body.now + nodes c.args.first.now)} (sym (c.in_ok-checked.ensures.kept ∙ (c.in_ok-type_under.ensures.kept ∙ c.in_ok-type_at.ensures.kept))) (sym three) (ready_part c.requires (Part.pair_second {w = AType})))

pub pair-returns-in_err-have-clause-judged : goal.pair-returns-in_err-have-clause-judged
pair-returns-in_err-have-clause-judged t c =
    let e = err_from_is_err_and c.from_residual-in_err-have.result c.from_residual-in_err-have.ensures.1 in
    rw (e.1, e.2) (pair_second_fails (laws_entries c.args.setting.now.signature.now) c.args.setting.now.asked (site_of c.args.locals.now c.args.found.now.levels) c.args.bound.now.binder c.args.bound.now.domain.now c.args.bound.now.body.now c.args.first.now c.args.second.now c.args.found.now c.type_at.new.found c.in_ok-type_at.field-0 c.in_ok-type_at.ensures.sort c.type_under.new.found c.in_ok-type_under.field-0 (under_rule (λ z. FindsSort (laws_entries c.args.setting.now.signature.now) c.args.setting.now.asked z c.args.bound.now.body.now c.type_at.new.found c.type_under.new.found (Ok c.in_ok-type_under.field-0)) c.args.bound.now.binder c.args.bound.now.domain.now c.args.locals.now c.type_at.new.locals (record { binder = c.args.bound.now.binder; ty = c.args.bound.now.domain.now } ∷ c.type_at.new.locals) c.args.found.now.levels c.type_at.new.found.levels c.in_ok-type_at.ensures.kept refl c.in_ok-type_at.ensures.sort.1.levels c.in_ok-type_under.ensures.sort) c.checked.new.found (at_site (λ z. ChecksAt (laws_entries c.args.setting.now.signature.now) c.args.setting.now.asked z c.args.first.now c.args.bound.now.domain.now c.type_under.new.found c.checked.new.found (Ok tt)) {l = c.type_under.new.locals} {l' = c.args.locals.now} {n = c.type_under.new.found.levels} {n' = c.args.found.now.levels + (nodes c.args.bound.now.domain.now + nodes c.args.bound.now.body.now)} (c.in_ok-type_under.ensures.kept ∙ c.in_ok-type_at.ensures.kept) (let i = c.in_ok-type_at.ensures.sort.1.levels in let j = c.in_ok-type_under.ensures.sort.1.levels in omega arith) c.in_ok-checked.ensures.judged) c.in_err-have.field-0.0 (at_site (λ z. Fails (laws_entries c.args.setting.now.signature.now) c.args.setting.now.asked.limit z c.args.second.now c.in_err-have.field-0.0) {l = c.checked.new.locals} {l' = c.args.locals.now} {n = c.checked.new.found.levels} {n' = c.args.found.now.levels + (nodes c.args.bound.now.domain.now + nodes c.args.bound.now.body.now + nodes c.args.first.now)} (c.in_ok-checked.ensures.kept ∙ (c.in_ok-type_under.ensures.kept ∙ c.in_ok-type_at.ensures.kept)) (let i = c.in_ok-type_at.ensures.sort.1.levels in let j = c.in_ok-type_under.ensures.sort.1.levels in let k = c.in_ok-checked.ensures.judged.1.levels in omega arith) c.in_err-have.ensures.judged))

pub pair-instance-requires : goal.pair-instance-requires
pair-instance-requires t c =
    let v = c.requires.over.variables in let g = few_names c.args.locals.now c.args.found.now.levels c.requires in omega (arith, length-map (λ (z : Local). z.ty) c.args.locals.now)

pub pair-returns-in_err-want-clause-judged : goal.pair-returns-in_err-want-clause-judged
pair-returns-in_err-want-clause-judged t c =
    let e = err_from_is_err_and c.from_residual-in_err-want.result c.from_residual-in_err-want.ensures.1 in
    rw (e.1, e.2) (pair_stated_fails (laws_entries c.args.setting.now.signature.now) c.args.setting.now.asked (site_of c.args.locals.now c.args.found.now.levels) c.args.bound.now.binder c.args.bound.now.domain.now c.args.bound.now.body.now c.args.first.now c.args.second.now c.args.found.now c.type_at.new.found c.in_ok-type_at.field-0 c.in_ok-type_at.ensures.sort c.type_under.new.found c.in_ok-type_under.field-0 (under_rule (λ z. FindsSort (laws_entries c.args.setting.now.signature.now) c.args.setting.now.asked z c.args.bound.now.body.now c.type_at.new.found c.type_under.new.found (Ok c.in_ok-type_under.field-0)) c.args.bound.now.binder c.args.bound.now.domain.now c.args.locals.now c.type_at.new.locals (record { binder = c.args.bound.now.binder; ty = c.args.bound.now.domain.now } ∷ c.type_at.new.locals) c.args.found.now.levels c.type_at.new.found.levels c.in_ok-type_at.ensures.kept refl c.in_ok-type_at.ensures.sort.1.levels c.in_ok-type_under.ensures.sort) c.checked.new.found (at_site (λ z. ChecksAt (laws_entries c.args.setting.now.signature.now) c.args.setting.now.asked z c.args.first.now c.args.bound.now.domain.now c.type_under.new.found c.checked.new.found (Ok tt)) {l = c.type_under.new.locals} {l' = c.args.locals.now} {n = c.type_under.new.found.levels} {n' = c.args.found.now.levels + (nodes c.args.bound.now.domain.now + nodes c.args.bound.now.body.now)} (c.in_ok-type_under.ensures.kept ∙ c.in_ok-type_at.ensures.kept) (let i = c.in_ok-type_at.ensures.sort.1.levels in let j = c.in_ok-type_under.ensures.sort.1.levels in omega arith) c.in_ok-checked.ensures.judged) c.judge.new.found c.in_ok-have.have (at_site (λ z. Infers (laws_entries c.args.setting.now.signature.now) c.args.setting.now.asked z c.args.second.now c.checked.new.found c.judge.new.found (Ok c.in_ok-have.have)) {l = c.checked.new.locals} {l' = c.args.locals.now} {n = c.checked.new.found.levels} {n' = c.args.found.now.levels + (nodes c.args.bound.now.domain.now + nodes c.args.bound.now.body.now + nodes c.args.first.now)} (c.in_ok-checked.ensures.kept ∙ (c.in_ok-type_under.ensures.kept ∙ c.in_ok-type_at.ensures.kept)) (let i = c.in_ok-type_at.ensures.sort.1.levels in let j = c.in_ok-type_under.ensures.sort.1.levels in let k = c.in_ok-checked.ensures.judged.1.levels in omega arith) c.in_ok-have.ensures.judged) c.in_err-want.field-0.0 (let e = c.size-size.ensures.exact in let l = c.size-size.ensures.limit in omega arith, let e = c.depth-depth.ensures.exact in let l = c.depth-depth.ensures.limit in omega arith) c.in_err-want.ensures)

pub pair-compare-requires-clause-left : goal.pair-compare-requires-clause-left
pair-compare-requires-clause-left t c =
    let l = loose_of (ready_part c.requires (Part.pair_second {w = AType})) (at_site (λ z. Infers (laws_entries c.args.setting.now.signature.now) c.args.setting.now.asked z c.args.second.now c.checked.new.found c.judge.new.found (Ok c.in_ok-have.have)) {l = c.checked.new.locals} {l' = c.args.locals.now} {n = c.checked.new.found.levels} {n' = c.args.found.now.levels + (nodes c.args.bound.now.domain.now + nodes c.args.bound.now.body.now + nodes c.args.first.now)} (c.in_ok-checked.ensures.kept ∙ (c.in_ok-type_under.ensures.kept ∙ c.in_ok-type_at.ensures.kept)) (let i = c.in_ok-type_at.ensures.sort.1.levels in let j = c.in_ok-type_under.ensures.sort.1.levels in let k = c.in_ok-checked.ensures.judged.1.levels in omega arith) c.in_ok-have.ensures.judged).2.rule in let g = few_names c.args.locals.now c.args.found.now.levels c.requires in omega (arith, length-map (λ (z : Local). z.ty) c.args.locals.now)

pub pair-compare-requires-clause-right : goal.pair-compare-requires-clause-right
pair-compare-requires-clause-right t c =
    let is = ap (λ (z : Core). loose z) c.in_ok-want.ensures in let v = c.requires.over.variables in let g = few_names c.args.locals.now c.args.found.now.levels c.requires in omega (arith, loose-instantiate c.args.bound.now.body.now c.args.first.now, length-map (λ (z : Local). z.ty) c.args.locals.now)

pub pair-returns-in_err-compare-clause-judged : goal.pair-returns-in_err-compare-clause-judged
pair-returns-in_err-compare-clause-judged t c =
    let e = err_from_is_err_and c.from_residual-in_err-compare.result c.from_residual-in_err-compare.ensures.1 in
    rw (e.1, e.2) (pair_compare_fails (laws_entries c.args.setting.now.signature.now) c.args.setting.now.asked (site_of c.args.locals.now c.args.found.now.levels) c.args.bound.now.binder c.args.bound.now.domain.now c.args.bound.now.body.now c.args.first.now c.args.second.now c.args.found.now c.type_at.new.found c.in_ok-type_at.field-0 c.in_ok-type_at.ensures.sort c.type_under.new.found c.in_ok-type_under.field-0 (under_rule (λ z. FindsSort (laws_entries c.args.setting.now.signature.now) c.args.setting.now.asked z c.args.bound.now.body.now c.type_at.new.found c.type_under.new.found (Ok c.in_ok-type_under.field-0)) c.args.bound.now.binder c.args.bound.now.domain.now c.args.locals.now c.type_at.new.locals (record { binder = c.args.bound.now.binder; ty = c.args.bound.now.domain.now } ∷ c.type_at.new.locals) c.args.found.now.levels c.type_at.new.found.levels c.in_ok-type_at.ensures.kept refl c.in_ok-type_at.ensures.sort.1.levels c.in_ok-type_under.ensures.sort) c.checked.new.found (at_site (λ z. ChecksAt (laws_entries c.args.setting.now.signature.now) c.args.setting.now.asked z c.args.first.now c.args.bound.now.domain.now c.type_under.new.found c.checked.new.found (Ok tt)) {l = c.type_under.new.locals} {l' = c.args.locals.now} {n = c.type_under.new.found.levels} {n' = c.args.found.now.levels + (nodes c.args.bound.now.domain.now + nodes c.args.bound.now.body.now)} (c.in_ok-type_under.ensures.kept ∙ c.in_ok-type_at.ensures.kept) (let i = c.in_ok-type_at.ensures.sort.1.levels in let j = c.in_ok-type_under.ensures.sort.1.levels in omega arith) c.in_ok-checked.ensures.judged) c.judge.new.found c.in_ok-have.have (at_site (λ z. Infers (laws_entries c.args.setting.now.signature.now) c.args.setting.now.asked z c.args.second.now c.checked.new.found c.judge.new.found (Ok c.in_ok-have.have)) {l = c.checked.new.locals} {l' = c.args.locals.now} {n = c.checked.new.found.levels} {n' = c.args.found.now.levels + (nodes c.args.bound.now.domain.now + nodes c.args.bound.now.body.now + nodes c.args.first.now)} (c.in_ok-checked.ensures.kept ∙ (c.in_ok-type_under.ensures.kept ∙ c.in_ok-type_at.ensures.kept)) (let i = c.in_ok-type_at.ensures.sort.1.levels in let j = c.in_ok-type_under.ensures.sort.1.levels in let k = c.in_ok-checked.ensures.judged.1.levels in omega arith) c.in_ok-have.ensures.judged) c.in_err-compare.field-0.0 c.requires.closed.bodies
    (subst (λ (z : Core). PairFails (laws_entries c.args.setting.now.signature.now) c.args.setting.now.asked.limit (binders_of c.args.locals.now) c.args.second.now c.in_ok-have.have z c.in_err-compare.field-0.0) c.in_ok-want.ensures
    (subst (λ (z : List Local). PairFails (laws_entries c.args.setting.now.signature.now) c.args.setting.now.asked.limit (binders_of z) c.args.second.now c.in_ok-have.have c.in_ok-want.want c.in_err-compare.field-0.0) (c.in_ok-have.ensures.kept ∙ (c.in_ok-checked.ensures.kept ∙ (c.in_ok-type_under.ensures.kept ∙ c.in_ok-type_at.ensures.kept))) c.in_err-compare.ensures)))

pub pair-returns-clause-judged : goal.pair-returns-clause-judged
pair-returns-clause-judged t c =
    pair_infers (laws_entries c.args.setting.now.signature.now) c.args.setting.now.asked (site_of c.args.locals.now c.args.found.now.levels) c.args.bound.now.binder c.args.bound.now.domain.now c.args.bound.now.body.now c.args.first.now c.args.second.now c.args.found.now c.type_at.new.found c.in_ok-type_at.field-0 c.in_ok-type_at.ensures.sort c.type_under.new.found c.in_ok-type_under.field-0 (under_rule (λ z. FindsSort (laws_entries c.args.setting.now.signature.now) c.args.setting.now.asked z c.args.bound.now.body.now c.type_at.new.found c.type_under.new.found (Ok c.in_ok-type_under.field-0)) c.args.bound.now.binder c.args.bound.now.domain.now c.args.locals.now c.type_at.new.locals (record { binder = c.args.bound.now.binder; ty = c.args.bound.now.domain.now } ∷ c.type_at.new.locals) c.args.found.now.levels c.type_at.new.found.levels c.in_ok-type_at.ensures.kept refl c.in_ok-type_at.ensures.sort.1.levels c.in_ok-type_under.ensures.sort) c.checked.new.found (at_site (λ z. ChecksAt (laws_entries c.args.setting.now.signature.now) c.args.setting.now.asked z c.args.first.now c.args.bound.now.domain.now c.type_under.new.found c.checked.new.found (Ok tt)) {l = c.type_under.new.locals} {l' = c.args.locals.now} {n = c.type_under.new.found.levels} {n' = c.args.found.now.levels + (nodes c.args.bound.now.domain.now + nodes c.args.bound.now.body.now)} (c.in_ok-type_under.ensures.kept ∙ c.in_ok-type_at.ensures.kept) (let i = c.in_ok-type_at.ensures.sort.1.levels in let j = c.in_ok-type_under.ensures.sort.1.levels in omega arith) c.in_ok-checked.ensures.judged) c.judge.new.found c.in_ok-have.have (at_site (λ z. Infers (laws_entries c.args.setting.now.signature.now) c.args.setting.now.asked z c.args.second.now c.checked.new.found c.judge.new.found (Ok c.in_ok-have.have)) {l = c.checked.new.locals} {l' = c.args.locals.now} {n = c.checked.new.found.levels} {n' = c.args.found.now.levels + (nodes c.args.bound.now.domain.now + nodes c.args.bound.now.body.now + nodes c.args.first.now)} (c.in_ok-checked.ensures.kept ∙ (c.in_ok-type_under.ensures.kept ∙ c.in_ok-type_at.ensures.kept)) (let i = c.in_ok-type_at.ensures.sort.1.levels in let j = c.in_ok-type_under.ensures.sort.1.levels in let k = c.in_ok-checked.ensures.judged.1.levels in omega arith) c.in_ok-have.ensures.judged) c.compare.new.found c.sigma_former.result c.requires
    (subst (λ (z : Core). Compares (laws_entries c.args.setting.now.signature.now) c.args.setting.now.asked (binders_of c.args.locals.now) c.args.second.now c.in_ok-have.have z c.judge.new.found c.compare.new.found (Ok tt)) c.in_ok-want.ensures
    (subst (λ (z : List Local). Compares (laws_entries c.args.setting.now.signature.now) c.args.setting.now.asked (binders_of z) c.args.second.now c.in_ok-have.have c.in_ok-want.want c.judge.new.found c.compare.new.found (Ok tt)) (c.in_ok-have.ensures.kept ∙ (c.in_ok-checked.ensures.kept ∙ (c.in_ok-type_under.ensures.kept ∙ c.in_ok-type_at.ensures.kept))) c.in_ok-compare.ensures)) c.sigma_former.ensures

pub pair-returns-clause-kept : goal.pair-returns-clause-kept
pair-returns-clause-kept t c =
    on_any c.sigma_former.result (c.in_ok-have.ensures.kept ∙ (c.in_ok-checked.ensures.kept ∙ (c.in_ok-type_under.ensures.kept ∙ c.in_ok-type_at.ensures.kept)))

pub judge-universe_type-requires : goal.judge-universe_type-requires
judge-universe_type-requires t c =
    (subst (NamesEntries (laws_entries c.args.setting.now.signature.now)) (sym c.in-Univ.ensures.root) c.requires.over.names)

pub judge-variable-requires-clause-within : goal.judge-variable-requires-clause-within
judge-variable-requires-clause-within t c =
    let v = c.requires.over.variables in let l = ap (λ (z : Core). loose z) c.in-Var.ensures.root in omega (arith, length-map (λ (z : Local). z.ty) c.args.locals.now)

pub judge-variable-requires-clause-scoped : goal.judge-variable-requires-clause-scoped
judge-variable-requires-clause-scoped t c =
    c.requires.scoped

pub judge-constant-requires : goal.judge-constant-requires
judge-constant-requires t c =
    (subst (NamesEntries (laws_entries c.args.setting.now.signature.now)) (sym c.in-Const.ensures.root) c.requires.over.names)

pub judge-formed-requires : goal.judge-formed-requires
judge-formed-requires t c =
    let falls = c.decreases in let same = ap (λ (z : Core). height z) c.in-Pi.ensures.root in (omega (arith, heights.pi c.in-Pi.binder c.in-Pi.domain.now c.in-Pi.body.now), (subst (IsReady (laws_entries c.args.setting.now.signature.now) (site_of c.args.locals.now c.args.found.now.levels)) (sym c.in-Pi.ensures.root) c.requires))

pub judge-returns-in_err-formed-in-Pi-clause-judged : goal.judge-returns-in_err-formed-in-Pi-clause-judged
judge-returns-in_err-formed-in-Pi-clause-judged t c =
    let e = err_from_is_err_and c.from_residual.result c.from_residual.ensures.1 in
    rw (e.1, e.2) (subst (λ (z : Core). Fails (laws_entries c.args.setting.now.signature.now) c.args.setting.now.asked.limit (site_of c.args.locals.now c.args.found.now.levels) z c.in_err-formed-in-Pi.field-0.0) c.in-Pi.ensures.root (c.in_err-formed-in-Pi.ensures.parts.0))

pub judge-formed-requires-in-Sigma : goal.judge-formed-requires-in-Sigma
judge-formed-requires-in-Sigma t c =
    let falls = c.decreases in let same = ap (λ (z : Core). height z) c.in-Sigma.ensures.root in (omega (arith, heights.sigma c.in-Sigma.binder c.in-Sigma.domain.now c.in-Sigma.body.now), ready_product (subst (IsReady (laws_entries c.args.setting.now.signature.now) (site_of c.args.locals.now c.args.found.now.levels)) (sym c.in-Sigma.ensures.root) c.requires))

pub judge-returns-in_err-formed-in-Sigma-clause-judged : goal.judge-returns-in_err-formed-in-Sigma-clause-judged
judge-returns-in_err-formed-in-Sigma-clause-judged t c =
    let e = err_from_is_err_and c.from_residual-in_err-formed-in-Sigma.result c.from_residual-in_err-formed-in-Sigma.ensures.1 in
    rw (e.1, e.2) (subst (λ (z : Core). Fails (laws_entries c.args.setting.now.signature.now) c.args.setting.now.asked.limit (site_of c.args.locals.now c.args.found.now.levels) z c.in_err-formed-in-Sigma.field-0.0) c.in-Sigma.ensures.root (c.in_err-formed-in-Sigma.ensures.parts.1))

pub judge-abstraction-requires : goal.judge-abstraction-requires
judge-abstraction-requires t c =
    let falls = c.decreases in let same = ap (λ (z : Core). height z) c.in-Lam.ensures.root in (omega (arith, heights.lam c.in-Lam.binder c.in-Lam.domain.now c.in-Lam.body.now), (subst (IsReady (laws_entries c.args.setting.now.signature.now) (site_of c.args.locals.now c.args.found.now.levels)) (sym c.in-Lam.ensures.root) c.requires))

pub judge-application-requires : goal.judge-application-requires
judge-application-requires t c =
    let falls = c.decreases in let same = ap (λ (z : Core). height z) c.in-App.ensures.root in (omega (arith, heights.app c.in-App.mark c.in-App.function.now c.in-App.argument.now), (subst (IsReady (laws_entries c.args.setting.now.signature.now) (site_of c.args.locals.now c.args.found.now.levels)) (sym c.in-App.ensures.root) c.requires))

pub judge-pair-requires : goal.judge-pair-requires
judge-pair-requires t c =
    let falls = c.decreases in let same = ap (λ (z : Core). height z) c.in-Pair.ensures.root in (omega (arith, heights.pair c.in-Pair.binder c.in-Pair.domain.now c.in-Pair.body.now c.in-Pair.first.now c.in-Pair.second.now), (subst (IsReady (laws_entries c.args.setting.now.signature.now) (site_of c.args.locals.now c.args.found.now.levels)) (sym c.in-Pair.ensures.root) c.requires))

pub judge-projected-requires : goal.judge-projected-requires
judge-projected-requires t c =
    let falls = c.decreases in let same = ap (λ (z : Core). height z) c.in-Fst.ensures.root in (omega (arith, heights.fst c.in-Fst.of.now), (subst (IsReady (laws_entries c.args.setting.now.signature.now) (site_of c.args.locals.now c.args.found.now.levels)) (sym c.in-Fst.ensures.root) c.requires))

pub judge-returns-in_err-former-in-Fst-clause-judged : goal.judge-returns-in_err-former-in-Fst-clause-judged
judge-returns-in_err-former-in-Fst-clause-judged t c =
    let e = err_from_is_err_and c.from_residual-in_err-former-in-Fst.result c.from_residual-in_err-former-in-Fst.ensures.1 in
    rw (e.1, e.2) (subst (λ (z : Core). Fails (laws_entries c.args.setting.now.signature.now) c.args.setting.now.asked.limit (site_of c.args.locals.now c.args.found.now.levels) z c.in_err-former-in-Fst.field-0.0) c.in-Fst.ensures.root (c.in_err-former-in-Fst.ensures.judged.0))

pub judge-projected-requires-in-Snd : goal.judge-projected-requires-in-Snd
judge-projected-requires-in-Snd t c =
    let falls = c.decreases in let same = ap (λ (z : Core). height z) c.in-Snd.ensures.root in (omega (arith, heights.snd c.in-Snd.of.now), ready_first (subst (IsReady (laws_entries c.args.setting.now.signature.now) (site_of c.args.locals.now c.args.found.now.levels)) (sym c.in-Snd.ensures.root) c.requires))

pub judge-returns-in_err-former-in-Snd-clause-judged : goal.judge-returns-in_err-former-in-Snd-clause-judged
judge-returns-in_err-former-in-Snd-clause-judged t c =
    let e = err_from_is_err_and c.from_residual-in_err-former-in-Snd.result c.from_residual-in_err-former-in-Snd.ensures.1 in
    rw (e.1, e.2) (subst (λ (z : Core). Fails (laws_entries c.args.setting.now.signature.now) c.args.setting.now.asked.limit (site_of c.args.locals.now c.args.found.now.levels) z c.in_err-former-in-Snd.field-0.0) c.in-Snd.ensures.root (c.in_err-former-in-Snd.ensures.judged.1))

pub judge-second_type-requires-clause-whole : goal.judge-second_type-requires-clause-whole
judge-second_type-requires-clause-whole t c =
    sym c.in-Snd.ensures.root

pub judge-second_type-requires-clause-room : goal.judge-second_type-requires-clause-room
judge-second_type-requires-clause-room t c =
    let v = c.requires.over.variables in let l = ap (λ (z : Core). loose z) c.in-Snd.ensures.root in let g = few_names c.args.locals.now c.args.found.now.levels c.requires in omega (arith, length-map (λ (z : Local). z.ty) c.args.locals.now)

pub judge-local-requires : goal.judge-local-requires
judge-local-requires t c =
    let falls = c.decreases in let same = ap (λ (z : Core). height z) c.in-Local.ensures.root in (omega (arith, heights.local c.in-Local.binder c.in-Local.value.now c.in-Local.body.now), (subst (IsReady (laws_entries c.args.setting.now.signature.now) (site_of c.args.locals.now c.args.found.now.levels)) (sym c.in-Local.ensures.root) c.requires))

pub judge-returns-in-Prop-clause-judged : goal.judge-returns-in-Prop-clause-judged
judge-returns-in-Prop-clause-judged t c =
    subst (λ (z : Core). Infers (laws_entries c.args.setting.now.signature.now) c.args.setting.now.asked (site_of c.args.locals.now c.args.found.now.levels) z c.args.found.now c.args.found.now c.prop_type.result) c.in-Prop.ensures.root (prop_infers (laws_entries c.args.setting.now.signature.now) c.args.setting.now.asked (site_of c.args.locals.now c.args.found.now.levels) c.args.found.now c.prop_type.result c.prop_type.ensures.ok c.prop_type.ensures.err)

pub judge-returns-in-Prop-clause-kept : goal.judge-returns-in-Prop-clause-kept
judge-returns-in-Prop-clause-kept t c =
    on_any c.prop_type.result refl

pub judge-returns-in-Univ-clause-judged : goal.judge-returns-in-Univ-clause-judged
judge-returns-in-Univ-clause-judged t c =
    let w = c.requires.over.levels_within in let l = ap (λ (z : Core). levels_bound z) c.in-Univ.ensures.root in subst (λ (z : Core). Infers (laws_entries c.args.setting.now.signature.now) c.args.setting.now.asked (site_of c.args.locals.now c.args.found.now.levels) z c.args.found.now c.universe_type.new.found c.universe_type.result) c.in-Univ.ensures.root (universe_infers (laws_entries c.args.setting.now.signature.now) c.args.setting.now.asked (types_of c.args.locals.now) (binders_of c.args.locals.now) c.in-Univ.level c.args.found.now c.universe_type.new.found c.universe_type.result (omega arith) c.universe_type.ensures)

pub judge-returns-in-Univ-clause-kept : goal.judge-returns-in-Univ-clause-kept
judge-returns-in-Univ-clause-kept t c =
    on_any c.universe_type.result refl

pub judge-returns-in-Var-clause-judged : goal.judge-returns-in-Var-clause-judged
judge-returns-in-Var-clause-judged t c =
    subst (λ (z : Core). Infers (laws_entries c.args.setting.now.signature.now) c.args.setting.now.asked (site_of c.args.locals.now c.args.found.now.levels) z c.args.found.now c.args.found.now c.variable.result) c.in-Var.ensures.root (variable_infers (laws_entries c.args.setting.now.signature.now) c.args.setting.now.asked (site_of c.args.locals.now c.args.found.now.levels) c.in-Var.index c.args.found.now c.variable.result c.variable.ensures.ok c.variable.ensures.err)

pub judge-returns-in-Var-clause-kept : goal.judge-returns-in-Var-clause-kept
judge-returns-in-Var-clause-kept t c =
    on_any c.variable.result refl

pub judge-returns-in-Const-clause-judged : goal.judge-returns-in-Const-clause-judged
judge-returns-in-Const-clause-judged t c =
    subst (λ (z : Core). Infers (laws_entries c.args.setting.now.signature.now) c.args.setting.now.asked (site_of c.args.locals.now c.args.found.now.levels) z c.args.found.now c.args.found.now c.constant.result) c.in-Const.ensures.root (constant_infers (laws_entries c.args.setting.now.signature.now) c.args.setting.now.asked (site_of c.args.locals.now c.args.found.now.levels) c.in-Const.number c.args.found.now c.constant.result c.constant.ensures.ok c.constant.ensures.err)

pub judge-returns-in-Const-clause-kept : goal.judge-returns-in-Const-clause-kept
judge-returns-in-Const-clause-kept t c =
    on_any c.constant.result refl

pub judge-returns-in_ok-formed-in-Pi-clause-judged : goal.judge-returns-in_ok-formed-in-Pi-clause-judged
judge-returns-in_ok-formed-in-Pi-clause-judged t c =
    subst (λ (z : Core). Infers (laws_entries c.args.setting.now.signature.now) c.args.setting.now.asked (site_of c.args.locals.now c.args.found.now.levels) z c.args.found.now c.product_type.new.found c.product_type.result) c.in-Pi.ensures.root (product_infers (laws_entries c.args.setting.now.signature.now) c.args.setting.now.asked (site_of c.args.locals.now c.args.found.now.levels) c.in-Pi.binder c.in-Pi.domain.now c.in-Pi.body.now c.args.found.now c.formed.new.found c.product_type.new.found c.in_ok-formed-in-Pi.formed c.product_type.result (subst (IsReady (laws_entries c.args.setting.now.signature.now) (site_of c.args.locals.now c.args.found.now.levels)) (sym c.in-Pi.ensures.root) c.requires) c.in_ok-formed-in-Pi.ensures.parts c.product_type.ensures.ok c.product_type.ensures.added c.product_type.ensures.levels c.product_type.ensures.err)

pub judge-returns-in_ok-formed-in-Pi-clause-kept : goal.judge-returns-in_ok-formed-in-Pi-clause-kept
judge-returns-in_ok-formed-in-Pi-clause-kept t c =
    on_any c.product_type.result c.in_ok-formed-in-Pi.ensures.kept

pub judge-returns-in_ok-formed-in-Sigma-clause-judged : goal.judge-returns-in_ok-formed-in-Sigma-clause-judged
judge-returns-in_ok-formed-in-Sigma-clause-judged t c =
    subst (λ (z : Core). Infers (laws_entries c.args.setting.now.signature.now) c.args.setting.now.asked (site_of c.args.locals.now c.args.found.now.levels) z c.args.found.now c.sigma_type.new.found c.sigma_type.result) c.in-Sigma.ensures.root (sigma_infers (laws_entries c.args.setting.now.signature.now) c.args.setting.now.asked (site_of c.args.locals.now c.args.found.now.levels) c.in-Sigma.binder c.in-Sigma.domain.now c.in-Sigma.body.now c.args.found.now c.formed-in-Sigma.new.found c.sigma_type.new.found c.in_ok-formed-in-Sigma.formed c.sigma_type.result (subst (IsReady (laws_entries c.args.setting.now.signature.now) (site_of c.args.locals.now c.args.found.now.levels)) (sym c.in-Sigma.ensures.root) c.requires) c.in_ok-formed-in-Sigma.ensures.parts c.sigma_type.ensures.ok c.sigma_type.ensures.added c.sigma_type.ensures.levels c.sigma_type.ensures.err)

pub judge-returns-in_ok-formed-in-Sigma-clause-kept : goal.judge-returns-in_ok-formed-in-Sigma-clause-kept
judge-returns-in_ok-formed-in-Sigma-clause-kept t c =
    on_any c.sigma_type.result c.in_ok-formed-in-Sigma.ensures.kept

pub judge-returns-in-Lam-clause-judged : goal.judge-returns-in-Lam-clause-judged
judge-returns-in-Lam-clause-judged t c =
    subst (λ (z : Core). Infers (laws_entries c.args.setting.now.signature.now) c.args.setting.now.asked (site_of c.args.locals.now c.args.found.now.levels) z c.args.found.now c.abstraction.new.found c.abstraction.result) c.in-Lam.ensures.root (c.abstraction.ensures.judged)

pub judge-returns-in-Lam-clause-kept : goal.judge-returns-in-Lam-clause-kept
judge-returns-in-Lam-clause-kept t c =
    c.abstraction.ensures.kept

pub judge-returns-in-App-clause-judged : goal.judge-returns-in-App-clause-judged
judge-returns-in-App-clause-judged t c =
    subst (λ (z : Core). Infers (laws_entries c.args.setting.now.signature.now) c.args.setting.now.asked (site_of c.args.locals.now c.args.found.now.levels) z c.args.found.now c.application.new.found c.application.result) c.in-App.ensures.root (c.application.ensures.judged)

pub judge-returns-in-App-clause-kept : goal.judge-returns-in-App-clause-kept
judge-returns-in-App-clause-kept t c =
    c.application.ensures.kept

pub judge-returns-in-Pair-clause-judged : goal.judge-returns-in-Pair-clause-judged
judge-returns-in-Pair-clause-judged t c =
    subst (λ (z : Core). Infers (laws_entries c.args.setting.now.signature.now) c.args.setting.now.asked (site_of c.args.locals.now c.args.found.now.levels) z c.args.found.now c.pair.new.found c.pair.result) c.in-Pair.ensures.root (c.pair.ensures.judged)

pub judge-returns-in-Pair-clause-kept : goal.judge-returns-in-Pair-clause-kept
judge-returns-in-Pair-clause-kept t c =
    c.pair.ensures.kept

pub judge-returns-in_ok-former-in-Fst-clause-judged : goal.judge-returns-in_ok-former-in-Fst-clause-judged
judge-returns-in_ok-former-in-Fst-clause-judged t c =
    subst (λ (z : Core). Infers (laws_entries c.args.setting.now.signature.now) c.args.setting.now.asked (site_of c.args.locals.now c.args.found.now.levels) z c.args.found.now c.projected.new.found (Ok c.in_ok-former-in-Fst.former.domain)) c.in-Fst.ensures.root (first_infers (laws_entries c.args.setting.now.signature.now) c.args.setting.now.asked (site_of c.args.locals.now c.args.found.now.levels) c.in-Fst.of.now c.args.found.now c.projected.new.found c.in_ok-former-in-Fst.former (subst (IsReady (laws_entries c.args.setting.now.signature.now) (site_of c.args.locals.now c.args.found.now.levels)) (sym c.in-Fst.ensures.root) c.requires) c.in_ok-former-in-Fst.ensures.judged)

pub judge-returns-in_ok-former-in-Fst-clause-kept : goal.judge-returns-in_ok-former-in-Fst-clause-kept
judge-returns-in_ok-former-in-Fst-clause-kept t c =
    c.in_ok-former-in-Fst.ensures.kept

pub judge-returns-in_ok-former-in-Snd-clause-judged : goal.judge-returns-in_ok-former-in-Snd-clause-judged
judge-returns-in_ok-former-in-Snd-clause-judged t c =
    subst (λ (z : Core). Infers (laws_entries c.args.setting.now.signature.now) c.args.setting.now.asked (site_of c.args.locals.now c.args.found.now.levels) z c.args.found.now c.projected-in-Snd.new.found c.second_type.result) c.in-Snd.ensures.root (second_infers (laws_entries c.args.setting.now.signature.now) c.args.setting.now.asked (site_of c.args.locals.now c.args.found.now.levels) c.in-Snd.of.now c.args.found.now c.projected-in-Snd.new.found c.in_ok-former-in-Snd.former c.second_type.result (subst (IsReady (laws_entries c.args.setting.now.signature.now) (site_of c.args.locals.now c.args.found.now.levels)) (sym c.in-Snd.ensures.root) c.requires) c.in_ok-former-in-Snd.ensures.judged c.second_type.ensures)

pub judge-returns-in_ok-former-in-Snd-clause-kept : goal.judge-returns-in_ok-former-in-Snd-clause-kept
judge-returns-in_ok-former-in-Snd-clause-kept t c =
    on_any c.second_type.result c.in_ok-former-in-Snd.ensures.kept

pub judge-returns-in-Local-clause-judged : goal.judge-returns-in-Local-clause-judged
judge-returns-in-Local-clause-judged t c =
    subst (λ (z : Core). Infers (laws_entries c.args.setting.now.signature.now) c.args.setting.now.asked (site_of c.args.locals.now c.args.found.now.levels) z c.args.found.now c.local.new.found c.local.result) c.in-Local.ensures.root (c.local.ensures.judged)

pub judge-returns-in-Local-clause-kept : goal.judge-returns-in-Local-clause-kept
judge-returns-in-Local-clause-kept t c =
    c.local.ensures.kept
