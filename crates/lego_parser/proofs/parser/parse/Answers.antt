use Rattle.std.proofs.Common.{map, refl, sym, subst}
use Rattle.std.proofs.lemmas.Result.{err_from_is_err_and}
use Rattle.lego_grammar.specs.Grammar.{item_of}
use Rattle.lego_parser.specs.Parsing.{IsNoCommand}
use Rattle.lego_parser.specs.private.Interning.{AreNumbered}
use Rattle.lego_parser.proofs.NumberingLemmas.{front_behind, fault_leaves, all_numbered}
use Rattle.lego_parser.proofs.ParserLemmas.{first_item, parsed, too_many, placed_leaves, as_written, written_form}
use Rattle.lego_parser.proofs.parser.parse.Goals as goal

pub returns-in_err-start-clause-cause : goal.returns-in_err-start-clause-cause
returns-in_err-start-clause-cause c =
    let p = err_from_is_err_and c.from_residual-in_err-start.result c.from_residual-in_err-start.ensures.1 in
    let cause : IsNoCommand c.args.names.now (map (item_of c.args.text.now) c.args.tokens.now) c.in_err-start.field-0.0 = c.in_err-start.ensures.cause c.args.names.now c.args.text.now in
    rw (p.1, p.2) cause

pub returns-in_err-start-clause-kept : goal.returns-in_err-start-clause-kept
returns-in_err-start-clause-kept c =
    let p = err_from_is_err_and c.from_residual-in_err-start.result c.from_residual-in_err-start.ensures.1 in
    rw (p.1, p.2) (placed_leaves c.in_err-start.field-0.0 c.args.names.now (map (item_of c.args.text.now) c.args.tokens.now) c.in_err-start.ensures.placed)

pub returns-in_err-intern_names-clause-cause : goal.returns-in_err-intern_names-clause-cause
returns-in_err-intern_names-clause-cause c =
    let p = err_from_is_err_and c.from_residual-in_err-intern_names.result c.from_residual-in_err-intern_names.ensures.1 in
    let cause : IsNoCommand c.args.names.now (map (item_of c.args.text.now) c.args.tokens.now) c.in_err-intern_names.field-0.0 =
    too_many (map (item_of c.args.text.now) c.args.tokens.now) c.in_ok-start.start (c.in_ok-start.ensures.whole c.args.text.now) c.args.names.now _ c.in_err-intern_names.field-0.0 c.in_err-intern_names.ensures.cause in
    rw (p.1, p.2) cause

pub returns-in_err-intern_names-clause-kept : goal.returns-in_err-intern_names-clause-kept
returns-in_err-intern_names-clause-kept c =
    let p = err_from_is_err_and c.from_residual-in_err-intern_names.result c.from_residual-in_err-intern_names.ensures.1 in
    rw (p.1, p.2) (fault_leaves c.in_err-intern_names.field-0.0 c.args.names.now (map (item_of c.args.text.now) c.args.tokens.now) _ c.in_err-intern_names.ensures.cause)

pub returns-clause-command : goal.returns-clause-command
returns-clause-command c =
    let items = map (item_of c.args.text.now) c.args.tokens.now in
    let built = c.in_ok-act.ensures (item_of c.args.text.now c.in-Some.first.now) (first_item c.args.text.now c.args.tokens.now c.in-Some.first.now c.in-Some.ensures.value) in
    parsed items c.in_ok-start.start (c.in_ok-start.ensures.whole c.args.text.now) _ _ (as_written _ items c.in-Some.first.now.place c.in_ok-act.act built)

pub returns-clause-form : goal.returns-clause-form
returns-clause-form c =
    let items = map (item_of c.args.text.now) c.args.tokens.now in
    let built = c.in_ok-act.ensures (item_of c.args.text.now c.in-Some.first.now) (first_item c.args.text.now c.args.tokens.now c.in-Some.first.now c.in-Some.ensures.value) in
    let whole = parsed items c.in_ok-start.start (c.in_ok-start.ensures.whole c.args.text.now) _ _ (as_written _ items c.in-Some.first.now.place c.in_ok-act.act built) in
    written_form _ items c.in-Some.first.now.place c.in_ok-act.act built _ refl whole

pub returns-in_err-context-clause-kept : goal.returns-in_err-context-clause-kept
returns-in_err-context-clause-kept c =
    let p = err_from_is_err_and c.from_residual.result c.from_residual.ensures.1 in
    rw (p.1, p.2) (front_behind c.args.names.now (map (item_of c.args.text.now) c.args.tokens.now))

pub returns-in_err-other-clause-kept : goal.returns-in_err-other-clause-kept
returns-in_err-other-clause-kept c =
    let p = err_from_is_err_and c.from_residual-in_err-other.result c.from_residual-in_err-other.ensures.1 in
    rw (p.1, p.2) (front_behind c.args.names.now (map (item_of c.args.text.now) c.args.tokens.now))

pub build-requires-clause-numbered : goal.build-requires-clause-numbered
build-requires-clause-numbered c =
    subst (λ names. AreNumbered names (map (item_of c.args.text.now) c.args.tokens.now)) (sym c.in_ok-intern_names.ensures.ok)
    (all_numbered c.args.names.now (map (item_of c.args.text.now) c.args.tokens.now))
