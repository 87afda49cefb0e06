use Rattle.std.proofs.Common.{◌+◌, List, ◌∷◌, Some, Ok, Err, refl, sym, ap, subst, arith}
use Rattle.std.proofs.lemmas.Result.{err_from_is_err_and}
use Rattle.lego_term.specs.Trees.{Core, Var, Const, Prop, Univ, Pi, Lam, App, Sigma, Pair, Fst, Snd, instantiate}
use Rattle.lego_term.specs.Weight.{height}
use Rattle.lego_term.specs.Sequences.{HeadForm}
use Rattle.lego_laws.specs.Entries.{core_bodies}
use Rattle.lego_laws.specs.RuleTypes.{RuleType, nodes}
use Rattle.lego_laws.specs.Places.{behind}
use Rattle.lego_laws.proofs.lemmas.principal.SolvedCores.{heights}
use Rattle.lego_inference.specs.Entries.{laws_entries}
use Rattle.lego_inference.specs.Locals.{site_of, binders_of}
use Rattle.lego_inference.specs.declared.locals.Local.{Local}
use Rattle.lego_inference.specs.private.Wanting.{IsHeadOf}
use Rattle.lego_rule_types.specs.Used.{IsUsed, IsHeadUsed}
use Rattle.lego_rule_types.specs.Failures.{Stops}
use Rattle.lego_rule_types.specs.private.Finding.{IsPlaced, Finds, HeadStops, FindsHead}
use Rattle.lego_rule_types.proofs.FindLemmas.{at_site, stops_in, head_stops_in, memory_stops, made_some, made_err, rule_some, head_err, uses_product, uses_function, uses_applied, uses_first, uses_second, product_found, product_none, function_none, first_none, second_none, unfit_applied, former_found, local_found, some_found, none_found, some_head, none_head, some_pair, no_pair, some_in, none_in}
use Rattle.lego_rule_types.proofs.PlacedLemmas.{placed_product_body, placed_function_body, placed_local_body, few_loose_type, put_memory}
use Rattle.lego_rule_types.proofs.rule.+rule.Goals as goal

pub head_at-returns-in_err-ty-clause-found : goal.head_at-returns-in_err-ty-clause-found
head_at-returns-in_err-ty-clause-found t c =
    let e = err_from_is_err_and c.from_residual.result c.from_residual.ensures.1 in
    rw (e.1, e.2) (HeadStops.part c.in_err-ty.ensures.found)

pub head_at-head_of-requires : goal.head_at-head_of-requires
head_at-head_of-requires t c =
    few_loose_type c.requires (some_found (laws_entries c.args.setting.now.signature.now) c.args.setting.now.limit (site_of c.args.locals.now c.args.first) c.args.m.now _ c.in-Some.ty c.in-Some.is c.in_ok-ty.ensures.found)

pub head_at-returns-in_err-form-clause-found : goal.head_at-returns-in_err-form-clause-found
head_at-returns-in_err-form-clause-found t c =
    let e = err_from_is_err_and c.from_residual-in_err-form.result c.from_residual-in_err-form.ensures.1 in
    rw (e.1, e.2) (head_err (laws_entries c.args.setting.now.signature.now) c.args.setting.now.limit (site_of c.args.locals.now c.args.first) c.args.m.now c.in-Some.ty c.in_err-form.field-0.0 (some_found (laws_entries c.args.setting.now.signature.now) c.args.setting.now.limit (site_of c.args.locals.now c.args.first) c.args.m.now _ c.in-Some.ty c.in-Some.is c.in_ok-ty.ensures.found) (subst (λ (z : List Local). IsHeadOf (laws_entries c.args.setting.now.signature.now) c.args.setting.now.limit (binders_of z) c.in-Some.ty (Err c.in_err-form.field-0.0)) c.in_ok-ty.ensures.kept c.in_err-form.ensures))

pub product_rule-returns-in_err-next-clause-found : goal.product_rule-returns-in_err-next-clause-found
product_rule-returns-in_err-next-clause-found t c =
    let e = err_from_is_err_and c.from_residual.result c.from_residual.ensures.1 in
    rw (e.1, e.2) (memory_stops (laws_entries c.args.setting.now.signature.now) c.args.setting.now.limit c.in_err-next.field-0.0 c.in_err-next.ensures.err)

pub product_rule-returns-in_err-push-clause-found : goal.product_rule-returns-in_err-push-clause-found
product_rule-returns-in_err-push-clause-found t c =
    let e = err_from_is_err_and c.from_residual-in_err-push.result c.from_residual-in_err-push.ensures.1 in
    rw (e.1, e.2) (Stops.memory)

pub product_rule-head_at-requires : goal.product_rule-head_at-requires
product_rule-head_at-requires t c =
    let falls = c.decreases in (omega arith, at_site (λ z. IsPlaced (laws_entries c.args.setting.now.signature.now) z c.args.body.now) {l = (record { binder = c.args.binder; ty = c.args.domain.now } ∷ c.args.locals.now)} {n = c.args.first + 1 + nodes c.args.domain.now} (sym c.in_ok-push.ensures.ok) (sym c.in_ok-next.ensures.ok) (placed_product_body c.requires))

pub product_rule-returns-in_err-found-clause-found : goal.product_rule-returns-in_err-found-clause-found
product_rule-returns-in_err-found-clause-found t c =
    let e = err_from_is_err_and c.from_residual-in_err-found.result c.from_residual-in_err-found.ensures.1 in
    rw (e.1, e.2) (head_stops_in (laws_entries c.args.setting.now.signature.now) c.args.setting.now.limit (uses_product (laws_entries c.args.setting.now.signature.now) c.args.setting.now.limit (site_of c.args.locals.now c.args.first) c.args.binder c.args.domain.now c.args.body.now) (IsHeadUsed.product_body IsUsed.whole) (at_site (λ z. HeadStops (laws_entries c.args.setting.now.signature.now) c.args.setting.now.limit z c.args.body.now c.in_err-found.field-0.0) {l = c.push.new.self} {n = c.in_ok-next.next} c.in_ok-push.ensures.ok c.in_ok-next.ensures.ok c.in_err-found.ensures.found))

pub product_rule-returns-in_default-clause-found : goal.product_rule-returns-in_default-clause-found
product_rule-returns-in_default-clause-found t c =
    product_none (laws_entries c.args.setting.now.signature.now) c.args.setting.now.limit (site_of c.args.locals.now c.args.first) c.args.binder c.args.domain.now c.args.body.now (none_head (laws_entries c.args.setting.now.signature.now) c.args.setting.now.limit (site_of (record { binder = c.args.binder; ty = c.args.domain.now } ∷ c.args.locals.now) (c.args.first + 1 + nodes c.args.domain.now)) c.args.body.now c.in_ok-found.found c.in_default.is (at_site (λ z. FindsHead (laws_entries c.args.setting.now.signature.now) c.args.setting.now.limit z c.args.body.now (Ok c.in_ok-found.found)) {l = c.push.new.self} {n = c.in_ok-next.next} c.in_ok-push.ensures.ok c.in_ok-next.ensures.ok c.in_ok-found.ensures.found))

pub product_rule-returns-in_err-ty-clause-found : goal.product_rule-returns-in_err-ty-clause-found
product_rule-returns-in_err-ty-clause-found t c =
    let e = err_from_is_err_and c.from_residual-in_err-ty.result c.from_residual-in_err-ty.ensures.1 in
    rw (e.1, e.2) (memory_stops (laws_entries c.args.setting.now.signature.now) c.args.setting.now.limit c.in_err-ty.field-0.0 c.in_err-ty.ensures.err)

pub product_rule-returns-clause-found : goal.product_rule-returns-clause-found
product_rule-returns-clause-found t c =
    product_found (laws_entries c.args.setting.now.signature.now) c.args.setting.now.limit (site_of c.args.locals.now c.args.first) c.args.binder c.args.domain.now c.args.body.now c.in-Some.sort c.in_ok-ty.ty (some_head (laws_entries c.args.setting.now.signature.now) c.args.setting.now.limit (site_of (record { binder = c.args.binder; ty = c.args.domain.now } ∷ c.args.locals.now) (c.args.first + 1 + nodes c.args.domain.now)) c.args.body.now c.in_ok-found.found c.in-Some.sort c.in-Some.is (at_site (λ z. FindsHead (laws_entries c.args.setting.now.signature.now) c.args.setting.now.limit z c.args.body.now (Ok c.in_ok-found.found)) {l = c.push.new.self} {n = c.in_ok-next.next} c.in_ok-push.ensures.ok c.in_ok-next.ensures.ok c.in_ok-found.ensures.found)) c.in_ok-ty.ensures.ok

pub abstraction-returns-in_err-next-clause-found : goal.abstraction-returns-in_err-next-clause-found
abstraction-returns-in_err-next-clause-found t c =
    let e = err_from_is_err_and c.from_residual.result c.from_residual.ensures.1 in
    rw (e.1, e.2) (memory_stops (laws_entries c.args.setting.now.signature.now) c.args.setting.now.limit c.in_err-next.field-0.0 c.in_err-next.ensures.err)

pub abstraction-returns-in_err-push-clause-found : goal.abstraction-returns-in_err-push-clause-found
abstraction-returns-in_err-push-clause-found t c =
    let e = err_from_is_err_and c.from_residual-in_err-push.result c.from_residual-in_err-push.ensures.1 in
    rw (e.1, e.2) (Stops.memory)

pub abstraction-rule-requires : goal.abstraction-rule-requires
abstraction-rule-requires t c =
    let falls = c.decreases in (omega arith, at_site (λ z. IsPlaced (laws_entries c.args.setting.now.signature.now) z c.args.body.now) {l = (record { binder = c.args.binder; ty = c.args.domain.now } ∷ c.args.locals.now)} {n = c.args.first + nodes c.args.domain.now} (sym c.in_ok-push.ensures.ok) (sym c.in_ok-next.ensures.ok) (placed_function_body c.requires))

pub abstraction-returns-in_err-found-clause-found : goal.abstraction-returns-in_err-found-clause-found
abstraction-returns-in_err-found-clause-found t c =
    let e = err_from_is_err_and c.from_residual-in_err-found.result c.from_residual-in_err-found.ensures.1 in
    rw (e.1, e.2) (stops_in (laws_entries c.args.setting.now.signature.now) c.args.setting.now.limit (uses_function (laws_entries c.args.setting.now.signature.now) c.args.setting.now.limit (site_of c.args.locals.now c.args.first) c.args.binder c.args.domain.now c.args.body.now) (at_site (λ z. Stops (laws_entries c.args.setting.now.signature.now) c.args.setting.now.limit z c.args.body.now c.in_err-found.field-0.0) {l = c.push.new.self} {n = c.in_ok-next.next} c.in_ok-push.ensures.ok c.in_ok-next.ensures.ok c.in_err-found.ensures.found))

pub abstraction-returns-in_default-clause-found : goal.abstraction-returns-in_default-clause-found
abstraction-returns-in_default-clause-found t c =
    function_none (laws_entries c.args.setting.now.signature.now) c.args.setting.now.limit (site_of c.args.locals.now c.args.first) c.args.binder c.args.domain.now c.args.body.now (none_found (laws_entries c.args.setting.now.signature.now) c.args.setting.now.limit (site_of (record { binder = c.args.binder; ty = c.args.domain.now } ∷ c.args.locals.now) (c.args.first + nodes c.args.domain.now)) c.args.body.now c.in_ok-found.found c.in_default.is (at_site (λ z. Finds (laws_entries c.args.setting.now.signature.now) c.args.setting.now.limit z c.args.body.now (Ok c.in_ok-found.found)) {l = c.push.new.self} {n = c.in_ok-next.next} c.in_ok-push.ensures.ok c.in_ok-next.ensures.ok c.in_ok-found.ensures.found))

pub abstraction-returns-in_err-ty-clause-found : goal.abstraction-returns-in_err-ty-clause-found
abstraction-returns-in_err-ty-clause-found t c =
    let e = err_from_is_err_and c.from_residual-in_err-ty.result c.from_residual-in_err-ty.ensures.1 in
    rw (e.1, e.2) (made_err (laws_entries c.args.setting.now.signature.now) c.args.setting.now.limit (site_of c.args.locals.now c.args.first) (Lam c.args.binder c.args.domain.now c.args.body.now) (Pi c.args.binder c.args.domain.now c.in-Some.codomain) c.in_err-ty.field-0.0 (RuleType.lambda (some_found (laws_entries c.args.setting.now.signature.now) c.args.setting.now.limit (site_of (record { binder = c.args.binder; ty = c.args.domain.now } ∷ c.args.locals.now) (c.args.first + nodes c.args.domain.now)) c.args.body.now c.in_ok-found.found c.in-Some.codomain c.in-Some.is (at_site (λ z. Finds (laws_entries c.args.setting.now.signature.now) c.args.setting.now.limit z c.args.body.now (Ok c.in_ok-found.found)) {l = c.push.new.self} {n = c.in_ok-next.next} c.in_ok-push.ensures.ok c.in_ok-next.ensures.ok c.in_ok-found.ensures.found))) c.in_err-ty.ensures)

pub abstraction-returns-clause-found : goal.abstraction-returns-clause-found
abstraction-returns-clause-found t c =
    made_some (laws_entries c.args.setting.now.signature.now) c.args.setting.now.limit (site_of c.args.locals.now c.args.first) (Lam c.args.binder c.args.domain.now c.args.body.now) (Pi c.args.binder c.args.domain.now c.in-Some.codomain) c.in_ok-ty.ty (RuleType.lambda (some_found (laws_entries c.args.setting.now.signature.now) c.args.setting.now.limit (site_of (record { binder = c.args.binder; ty = c.args.domain.now } ∷ c.args.locals.now) (c.args.first + nodes c.args.domain.now)) c.args.body.now c.in_ok-found.found c.in-Some.codomain c.in-Some.is (at_site (λ z. Finds (laws_entries c.args.setting.now.signature.now) c.args.setting.now.limit z c.args.body.now (Ok c.in_ok-found.found)) {l = c.push.new.self} {n = c.in_ok-next.next} c.in_ok-push.ensures.ok c.in_ok-next.ensures.ok c.in_ok-found.ensures.found))) c.in_ok-ty.ensures

pub application-returns-in_err-form-clause-found : goal.application-returns-in_err-form-clause-found
application-returns-in_err-form-clause-found t c =
    let e = err_from_is_err_and c.from_residual.result c.from_residual.ensures.1 in
    rw (e.1, e.2) (head_stops_in (laws_entries c.args.setting.now.signature.now) c.args.setting.now.limit (uses_applied (laws_entries c.args.setting.now.signature.now) c.args.setting.now.limit (site_of c.args.locals.now c.args.first) c.args.mark c.args.function.now c.args.argument.now) (IsHeadUsed.applied IsUsed.whole) c.in_err-form.ensures.found)

pub application-returns-in_err-former-clause-found : goal.application-returns-in_err-former-clause-found
application-returns-in_err-former-clause-found t c =
    let e = err_from_is_err_and c.from_residual-in_err-former.result c.from_residual-in_err-former.ensures.1 in
    rw (e.1, e.2) (memory_stops (laws_entries c.args.setting.now.signature.now) c.args.setting.now.limit c.in_err-former.field-0.0 c.in_err-former.ensures)

pub application-returns-in_default-2-clause-found : goal.application-returns-in_default-2-clause-found
application-returns-in_default-2-clause-found t c =
    unfit_applied (laws_entries c.args.setting.now.signature.now) c.args.setting.now.limit (site_of c.args.locals.now c.args.first) c.args.mark c.args.function.now c.args.argument.now c.in-Some.form (some_head (laws_entries c.args.setting.now.signature.now) c.args.setting.now.limit (site_of c.args.locals.now c.args.first) c.args.function.now _ c.in-Some.form c.in-Some.is c.in_ok-form.ensures.found) (none_in c.in-Some.form _ c.in_default-2.is c.in_ok-former.ensures)

pub application-returns-in_err-ty-clause-found : goal.application-returns-in_err-ty-clause-found
application-returns-in_err-ty-clause-found t c =
    let e = err_from_is_err_and c.from_residual-in_err-ty.result c.from_residual-in_err-ty.ensures.1 in
    rw (e.1, e.2) (made_err (laws_entries c.args.setting.now.signature.now) c.args.setting.now.limit (site_of c.args.locals.now c.args.first) (App c.args.mark c.args.function.now c.args.argument.now) (instantiate c.in-Some-2.former.body c.args.argument.now) c.in_err-ty.field-0.0 (let has = (some_head (laws_entries c.args.setting.now.signature.now) c.args.setting.now.limit (site_of c.args.locals.now c.args.first) c.args.function.now _ c.in-Some.form c.in-Some.is c.in_ok-form.ensures.found) in RuleType.application has.rule (subst (HeadForm (core_bodies (laws_entries c.args.setting.now.signature.now)) has.ty) (some_in c.in-Some.form _ c.in-Some-2.former c.in-Some-2.is c.in_ok-former.ensures) has.head)) c.in_err-ty.ensures)

pub application-returns-clause-found : goal.application-returns-clause-found
application-returns-clause-found t c =
    made_some (laws_entries c.args.setting.now.signature.now) c.args.setting.now.limit (site_of c.args.locals.now c.args.first) (App c.args.mark c.args.function.now c.args.argument.now) (instantiate c.in-Some-2.former.body c.args.argument.now) c.in_ok-ty.ty (let has = (some_head (laws_entries c.args.setting.now.signature.now) c.args.setting.now.limit (site_of c.args.locals.now c.args.first) c.args.function.now _ c.in-Some.form c.in-Some.is c.in_ok-form.ensures.found) in RuleType.application has.rule (subst (HeadForm (core_bodies (laws_entries c.args.setting.now.signature.now)) has.ty) (some_in c.in-Some.form _ c.in-Some-2.former c.in-Some-2.is c.in_ok-former.ensures) has.head)) c.in_ok-ty.ensures

pub projected-returns-clause-found : goal.projected-returns-clause-found
projected-returns-clause-found t c =
    former_found (laws_entries c.args.setting.now.signature.now) c.args.setting.now.limit (site_of c.args.locals.now c.args.first) c.args.of.now c.in-Some.form c.sigma_in.result (some_head (laws_entries c.args.setting.now.signature.now) c.args.setting.now.limit (site_of c.args.locals.now c.args.first) c.args.of.now _ c.in-Some.form c.in-Some.is c.in_ok-form.ensures.found) c.sigma_in.ensures

pub first_projection-returns-in_err-former-clause-found : goal.first_projection-returns-in_err-former-clause-found
first_projection-returns-in_err-former-clause-found t c =
    let e = err_from_is_err_and c.from_residual.result c.from_residual.ensures.1 in
    rw (e.1, e.2) (head_stops_in (laws_entries c.args.setting.now.signature.now) c.args.setting.now.limit (uses_first (laws_entries c.args.setting.now.signature.now) c.args.setting.now.limit (site_of c.args.locals.now c.args.first) c.args.of.now) (IsHeadUsed.first_of IsUsed.whole) c.in_err-former.ensures.found)

pub first_projection-returns-in_default-clause-found : goal.first_projection-returns-in_default-clause-found
first_projection-returns-in_default-clause-found t c =
    first_none (laws_entries c.args.setting.now.signature.now) c.args.setting.now.limit (site_of c.args.locals.now c.args.first) c.args.of.now (no_pair (laws_entries c.args.setting.now.signature.now) c.args.setting.now.limit (site_of c.args.locals.now c.args.first) c.args.of.now _ c.in_default.is c.in_ok-former.ensures.found)

pub first_projection-returns-clause-found : goal.first_projection-returns-clause-found
first_projection-returns-clause-found t c =
    let has = (some_pair (laws_entries c.args.setting.now.signature.now) c.args.setting.now.limit (site_of c.args.locals.now c.args.first) c.args.of.now _ c.in-Some.former c.in-Some.is c.in_ok-former.ensures.found) in RuleType.first has.rule has.head

pub second_projection-returns-in_err-former-clause-found : goal.second_projection-returns-in_err-former-clause-found
second_projection-returns-in_err-former-clause-found t c =
    let e = err_from_is_err_and c.from_residual.result c.from_residual.ensures.1 in
    rw (e.1, e.2) (head_stops_in (laws_entries c.args.setting.now.signature.now) c.args.setting.now.limit (uses_second (laws_entries c.args.setting.now.signature.now) c.args.setting.now.limit (site_of c.args.locals.now c.args.first) c.args.of.now) (IsHeadUsed.second_of IsUsed.whole) c.in_err-former.ensures.found)

pub second_projection-returns-in_default-clause-found : goal.second_projection-returns-in_default-clause-found
second_projection-returns-in_default-clause-found t c =
    second_none (laws_entries c.args.setting.now.signature.now) c.args.setting.now.limit (site_of c.args.locals.now c.args.first) c.args.of.now (no_pair (laws_entries c.args.setting.now.signature.now) c.args.setting.now.limit (site_of c.args.locals.now c.args.first) c.args.of.now _ c.in_default.is c.in_ok-former.ensures.found)

pub second_projection-returns-in_err-ty-clause-found : goal.second_projection-returns-in_err-ty-clause-found
second_projection-returns-in_err-ty-clause-found t c =
    let e = err_from_is_err_and c.from_residual-in_err-ty.result c.from_residual-in_err-ty.ensures.1 in
    rw (e.1, e.2) (made_err (laws_entries c.args.setting.now.signature.now) c.args.setting.now.limit (site_of c.args.locals.now c.args.first) (Snd c.args.of.now) (instantiate c.in-Some.former.body (Fst c.args.of.now)) c.in_err-ty.field-0.0 (let has = (some_pair (laws_entries c.args.setting.now.signature.now) c.args.setting.now.limit (site_of c.args.locals.now c.args.first) c.args.of.now _ c.in-Some.former c.in-Some.is c.in_ok-former.ensures.found) in RuleType.second has.rule has.head) c.in_err-ty.ensures)

pub second_projection-returns-clause-found : goal.second_projection-returns-clause-found
second_projection-returns-clause-found t c =
    made_some (laws_entries c.args.setting.now.signature.now) c.args.setting.now.limit (site_of c.args.locals.now c.args.first) (Snd c.args.of.now) (instantiate c.in-Some.former.body (Fst c.args.of.now)) c.in_ok-ty.ty (let has = (some_pair (laws_entries c.args.setting.now.signature.now) c.args.setting.now.limit (site_of c.args.locals.now c.args.first) c.args.of.now _ c.in-Some.former c.in-Some.is c.in_ok-former.ensures.found) in RuleType.second has.rule has.head) c.in_ok-ty.ensures

pub local-returns-in_err-next-clause-found : goal.local-returns-in_err-next-clause-found
local-returns-in_err-next-clause-found t c =
    let e = err_from_is_err_and c.from_residual.result c.from_residual.ensures.1 in
    rw (e.1, e.2) (memory_stops (laws_entries c.args.setting.now.signature.now) c.args.setting.now.limit c.in_err-next.field-0.0 c.in_err-next.ensures.err)

pub local-returns-in_err-with_value-clause-found : goal.local-returns-in_err-with_value-clause-found
local-returns-in_err-with_value-clause-found t c =
    let e = err_from_is_err_and c.from_residual-in_err-with_value.result c.from_residual-in_err-with_value.ensures.1 in
    rw (e.1, e.2) (memory_stops (laws_entries c.args.setting.now.signature.now) c.args.setting.now.limit c.in_err-with_value.field-0.0 (put_memory c.in_err-with_value.field-0.0 c.requires c.in_err-with_value.ensures))

pub local-rule-requires : goal.local-rule-requires
local-rule-requires t c =
    let falls = c.decreases in let is = c.in_ok-with_value.ensures in let same = ap (λ (z : Core). height z) is in (omega arith, at_site (λ z. IsPlaced (laws_entries c.args.setting.now.signature.now) z c.in_ok-with_value.with_value) {l = c.args.locals.now} {n = c.args.first + nodes c.args.value.now} refl (sym c.in_ok-next.ensures.ok) (subst (IsPlaced (laws_entries c.args.setting.now.signature.now) (behind (nodes c.args.value.now) (site_of c.args.locals.now c.args.first))) (sym is) (placed_local_body c.requires)))

pub local-returns-clause-found : goal.local-returns-clause-found
local-returns-clause-found t c =
    local_found (laws_entries c.args.setting.now.signature.now) c.args.setting.now.limit (site_of c.args.locals.now c.args.first) c.args.binder c.args.value.now c.args.body.now c.rule.result (subst (λ (z : Core). Finds (laws_entries c.args.setting.now.signature.now) c.args.setting.now.limit (behind (nodes c.args.value.now) (site_of c.args.locals.now c.args.first)) z c.rule.result) c.in_ok-with_value.ensures (at_site (λ z. Finds (laws_entries c.args.setting.now.signature.now) c.args.setting.now.limit z c.in_ok-with_value.with_value c.rule.result) {l = c.args.locals.now} {n = c.in_ok-next.next} refl c.in_ok-next.ensures.ok c.rule.ensures.found))

pub rule-local-requires : goal.rule-local-requires
rule-local-requires t c =
    let falls = c.decreases in let same = ap (λ (z : Core). height z) c.in-Local.ensures.root in (omega (arith, heights.local c.in-Local.binder c.in-Local.value.now c.in-Local.body.now), (subst (IsPlaced (laws_entries c.args.setting.now.signature.now) (site_of c.args.locals.now c.args.first)) (sym c.in-Local.ensures.root) c.requires))

pub rule-returns-in_err-prop_type-in-Prop-clause-found : goal.rule-returns-in_err-prop_type-in-Prop-clause-found
rule-returns-in_err-prop_type-in-Prop-clause-found t c =
    let e = err_from_is_err_and c.from_residual.result c.from_residual.ensures.1 in
    rw (e.1, e.2) (memory_stops (laws_entries c.args.setting.now.signature.now) c.args.setting.now.limit c.in_err-prop_type-in-Prop.field-0.0 c.in_err-prop_type-in-Prop.ensures.err)

pub rule-returns-in_ok-prop_type-in-Prop-clause-found : goal.rule-returns-in_ok-prop_type-in-Prop-clause-found
rule-returns-in_ok-prop_type-in-Prop-clause-found t c =
    subst (λ (z : Core). Finds (laws_entries c.args.setting.now.signature.now) c.args.setting.now.limit (site_of c.args.locals.now c.args.first) z (Ok (Some c.in_ok-prop_type-in-Prop.field-0))) c.in-Prop.ensures.root (rule_some (laws_entries c.args.setting.now.signature.now) c.args.setting.now.limit (site_of c.args.locals.now c.args.first) Prop _ c.in_ok-prop_type-in-Prop.field-0 RuleType.prop c.in_ok-prop_type-in-Prop.ensures.ok)

pub rule-returns-in_err-own_universe-in-Univ-clause-found : goal.rule-returns-in_err-own_universe-in-Univ-clause-found
rule-returns-in_err-own_universe-in-Univ-clause-found t c =
    let e = err_from_is_err_and c.from_residual-in_err-own_universe-in-Univ.result c.from_residual-in_err-own_universe-in-Univ.ensures.1 in
    rw (e.1, e.2) (memory_stops (laws_entries c.args.setting.now.signature.now) c.args.setting.now.limit c.in_err-own_universe-in-Univ.field-0.0 c.in_err-own_universe-in-Univ.ensures.err)

pub rule-returns-in_ok-own_universe-in-Univ-clause-found : goal.rule-returns-in_ok-own_universe-in-Univ-clause-found
rule-returns-in_ok-own_universe-in-Univ-clause-found t c =
    subst (λ (z : Core). Finds (laws_entries c.args.setting.now.signature.now) c.args.setting.now.limit (site_of c.args.locals.now c.args.first) z (Ok (Some c.in_ok-own_universe-in-Univ.field-0))) c.in-Univ.ensures.root (rule_some (laws_entries c.args.setting.now.signature.now) c.args.setting.now.limit (site_of c.args.locals.now c.args.first) (Univ c.in-Univ.field-0) _ c.in_ok-own_universe-in-Univ.field-0 RuleType.universe c.in_ok-own_universe-in-Univ.ensures.ok)

pub rule-returns-in_err-own_universe-in-Sigma-clause-found : goal.rule-returns-in_err-own_universe-in-Sigma-clause-found
rule-returns-in_err-own_universe-in-Sigma-clause-found t c =
    let e = err_from_is_err_and c.from_residual-in_err-own_universe-in-Sigma.result c.from_residual-in_err-own_universe-in-Sigma.ensures.1 in
    rw (e.1, e.2) (memory_stops (laws_entries c.args.setting.now.signature.now) c.args.setting.now.limit c.in_err-own_universe-in-Sigma.field-0.0 c.in_err-own_universe-in-Sigma.ensures.err)

pub rule-returns-in_ok-own_universe-in-Sigma-clause-found : goal.rule-returns-in_ok-own_universe-in-Sigma-clause-found
rule-returns-in_ok-own_universe-in-Sigma-clause-found t c =
    subst (λ (z : Core). Finds (laws_entries c.args.setting.now.signature.now) c.args.setting.now.limit (site_of c.args.locals.now c.args.first) z (Ok (Some c.in_ok-own_universe-in-Sigma.field-0))) c.in-Sigma.ensures.root (rule_some (laws_entries c.args.setting.now.signature.now) c.args.setting.now.limit (site_of c.args.locals.now c.args.first) (Sigma c.in-Sigma.field-0 c.in-Sigma.field-1.now c.in-Sigma.field-2.now) _ c.in_ok-own_universe-in-Sigma.field-0 RuleType.sigma c.in_ok-own_universe-in-Sigma.ensures.ok)

pub rule-returns-in_err-variable-in-Var-clause-found : goal.rule-returns-in_err-variable-in-Var-clause-found
rule-returns-in_err-variable-in-Var-clause-found t c =
    let e = err_from_is_err_and c.from_residual-in_err-variable-in-Var.result c.from_residual-in_err-variable-in-Var.ensures.1 in
    rw (e.1, e.2) (memory_stops (laws_entries c.args.setting.now.signature.now) c.args.setting.now.limit c.in_err-variable-in-Var.field-0.0 c.in_err-variable-in-Var.ensures.err)

pub rule-returns-in_ok-variable-in-Var-clause-found : goal.rule-returns-in_ok-variable-in-Var-clause-found
rule-returns-in_ok-variable-in-Var-clause-found t c =
    subst (λ (z : Core). Finds (laws_entries c.args.setting.now.signature.now) c.args.setting.now.limit (site_of c.args.locals.now c.args.first) z (Ok (Some c.in_ok-variable-in-Var.field-0))) c.in-Var.ensures.root (rule_some (laws_entries c.args.setting.now.signature.now) c.args.setting.now.limit (site_of c.args.locals.now c.args.first) (Var c.in-Var.index) _ c.in_ok-variable-in-Var.field-0 (RuleType.variable c.in_ok-variable-in-Var.ensures.ok.1) c.in_ok-variable-in-Var.ensures.ok.2)

pub rule-returns-in_err-constant-in-Const-clause-found : goal.rule-returns-in_err-constant-in-Const-clause-found
rule-returns-in_err-constant-in-Const-clause-found t c =
    let e = err_from_is_err_and c.from_residual-in_err-constant-in-Const.result c.from_residual-in_err-constant-in-Const.ensures.1 in
    rw (e.1, e.2) (memory_stops (laws_entries c.args.setting.now.signature.now) c.args.setting.now.limit c.in_err-constant-in-Const.field-0.0 c.in_err-constant-in-Const.ensures.err)

pub rule-returns-in_ok-constant-in-Const-clause-found : goal.rule-returns-in_ok-constant-in-Const-clause-found
rule-returns-in_ok-constant-in-Const-clause-found t c =
    subst (λ (z : Core). Finds (laws_entries c.args.setting.now.signature.now) c.args.setting.now.limit (site_of c.args.locals.now c.args.first) z (Ok (Some c.in_ok-constant-in-Const.field-0))) c.in-Const.ensures.root (rule_some (laws_entries c.args.setting.now.signature.now) c.args.setting.now.limit (site_of c.args.locals.now c.args.first) (Const c.in-Const.number) _ c.in_ok-constant-in-Const.field-0 (RuleType.constant c.in_ok-constant-in-Const.ensures.ok.1) c.in_ok-constant-in-Const.ensures.ok.2)

pub rule-returns-in_err-sigma_former-in-Pair-clause-found : goal.rule-returns-in_err-sigma_former-in-Pair-clause-found
rule-returns-in_err-sigma_former-in-Pair-clause-found t c =
    let e = err_from_is_err_and c.from_residual-in_err-sigma_former-in-Pair.result c.from_residual-in_err-sigma_former-in-Pair.ensures.1 in
    rw (e.1, e.2) (subst (λ (z : Core). Finds (laws_entries c.args.setting.now.signature.now) c.args.setting.now.limit (site_of c.args.locals.now c.args.first) z (Err c.in_err-sigma_former-in-Pair.field-0.0)) c.in-Pair.ensures.root (made_err (laws_entries c.args.setting.now.signature.now) c.args.setting.now.limit (site_of c.args.locals.now c.args.first) (Pair c.in-Pair.binder c.in-Pair.domain.now c.in-Pair.body.now c.in-Pair.field-3.now c.in-Pair.field-4.now) (Sigma c.in-Pair.binder c.in-Pair.domain.now c.in-Pair.body.now) c.in_err-sigma_former-in-Pair.field-0.0 RuleType.pair c.in_err-sigma_former-in-Pair.ensures))

pub rule-returns-in_ok-sigma_former-in-Pair-clause-found : goal.rule-returns-in_ok-sigma_former-in-Pair-clause-found
rule-returns-in_ok-sigma_former-in-Pair-clause-found t c =
    subst (λ (z : Core). Finds (laws_entries c.args.setting.now.signature.now) c.args.setting.now.limit (site_of c.args.locals.now c.args.first) z (Ok (Some c.in_ok-sigma_former-in-Pair.field-0))) c.in-Pair.ensures.root (made_some (laws_entries c.args.setting.now.signature.now) c.args.setting.now.limit (site_of c.args.locals.now c.args.first) (Pair c.in-Pair.binder c.in-Pair.domain.now c.in-Pair.body.now c.in-Pair.field-3.now c.in-Pair.field-4.now) (Sigma c.in-Pair.binder c.in-Pair.domain.now c.in-Pair.body.now) c.in_ok-sigma_former-in-Pair.field-0 RuleType.pair c.in_ok-sigma_former-in-Pair.ensures)
