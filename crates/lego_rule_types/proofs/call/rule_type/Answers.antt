use Rattle.std.proofs.Common.{◌∙◌, refl, sym}
use Rattle.std.proofs.lemmas.Result.{err_from_is_err_and}
use Rattle.lego_inference.specs.Entries.{laws_entries}
use Rattle.lego_inference.specs.Locals.{site_of}
use Rattle.lego_rule_types.specs.Failures.{Stops, RuleTypeFails}
use Rattle.lego_rule_types.specs.Calls.{HasNoRuleType}
use Rattle.lego_rule_types.specs.private.Finding.{IsPlaced}
use Rattle.lego_rule_types.proofs.FindLemmas.{at_site, some_found, none_found}
use Rattle.lego_rule_types.proofs.PlacedLemmas.{placed_whole}
use Rattle.lego_rule_types.proofs.CallLemmas.{has_room, measured_fails, counted_fails, rule_whole}
use Rattle.lego_laws.specs.Places.{RuleTypeAt}
use Rattle.lego_rule_types.proofs.call.rule_type.Goals as goal

pub returns-in_err-measure : goal.returns-in_err-measure
returns-in_err-measure c =
    let e = err_from_is_err_and c.from_residual.result c.from_residual.ensures.1 in
    rw (e.1, e.2) (measured_fails (laws_entries c.args.signature.now) c.args.asked.limit (site_of c.args.locals.now c.args.levels) c.args.m.now c.in_err-measure.field-0.0 c.in_err-measure.ensures)

pub returns-in_err-behind : goal.returns-in_err-behind
returns-in_err-behind c =
    let e = err_from_is_err_and c.from_residual-in_err-behind.result c.from_residual-in_err-behind.ensures.1 in
    rw (e.1, e.2) (counted_fails (laws_entries c.args.signature.now) c.args.asked.limit (site_of c.args.locals.now c.args.levels) c.args.m.now c.in_ok-measure.field-0 c.in_err-behind.field-0.0 c.in_ok-measure.ensures c.in_err-behind.ensures)

pub returns-in_err-locals : goal.returns-in_err-locals
returns-in_err-locals c =
    let e = err_from_is_err_and c.from_residual-in_err-locals.result c.from_residual-in_err-locals.ensures.1 in
    rw (e.1, e.2) RuleTypeFails.memory

pub rule-requires : goal.rule-requires
rule-requires c =
    at_site (λ z. IsPlaced (laws_entries c.args.signature.now) z c.args.m.now) {l = c.args.locals.now} {n = c.args.levels} (sym c.in_ok-locals.ensures) refl
    (placed_whole c.args.signature.now c.args.locals.now c.args.levels c.args.m.now c.in_ok-measure.field-0 c.bodies-bodies.ensures.closed c.requires.held c.requires.term c.in_ok-measure.ensures c.in_ok-behind.ensures.1)

pub returns-in_err-ty : goal.returns-in_err-ty
returns-in_err-ty c =
    let e = err_from_is_err_and c.from_residual-in_err-ty.result c.from_residual-in_err-ty.ensures.1 in
    rw (e.1, e.2) (RuleTypeFails.stops (has_room (site_of c.args.locals.now c.args.levels) c.args.m.now c.in_ok-measure.field-0 c.in_ok-measure.ensures c.in_ok-behind.ensures.1) (at_site (λ z. Stops (laws_entries c.args.signature.now) c.args.asked.limit z c.args.m.now c.in_err-ty.field-0.0) {l = c.in_ok-locals.locals} {n = c.args.levels} c.in_ok-locals.ensures refl c.in_err-ty.ensures.found))

pub returns-in_default : goal.returns-in_default
returns-in_default c = (
  has_room (site_of c.args.locals.now c.args.levels) c.args.m.now c.in_ok-measure.field-0 c.in_ok-measure.ensures c.in_ok-behind.ensures.1,
  at_site (λ z. HasNoRuleType (laws_entries c.args.signature.now) z.types c.args.m.now) {l = c.in_ok-locals.locals} {n = c.args.levels} c.in_ok-locals.ensures refl
      (none_found (laws_entries c.args.signature.now) c.args.asked.limit (site_of c.in_ok-locals.locals c.args.levels) c.args.m.now _ c.in_default.is c.in_ok-ty.ensures.found),
)

pub returns : goal.returns
returns c =
    let rule =
    at_site (λ z. RuleTypeAt (laws_entries c.args.signature.now) z c.args.m.now c.in-Some.ty) {l = c.in_ok-locals.locals} {n = c.args.levels} c.in_ok-locals.ensures refl
    (some_found (laws_entries c.args.signature.now) c.args.asked.limit (site_of c.in_ok-locals.locals c.args.levels) c.args.m.now _ c.in-Some.ty c.in-Some.is c.in_ok-ty.ensures.found) in
    rule_whole c.args.signature.now c.args.locals.now c.args.levels c.args.m.now c.in_ok-measure.field-0 _ c.bodies-bodies.ensures.closed c.requires.held c.requires.term c.in_ok-measure.ensures rule (c.of.ensures ∙ c.new.ensures.items) c.in_ok-behind.ensures.0 c.in_ok-behind.ensures.1
