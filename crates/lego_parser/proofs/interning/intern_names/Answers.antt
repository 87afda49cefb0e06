use Rattle.std.proofs.Common.{◌∙◌, map, arith, add-one}
use Rattle.std.proofs.lemmas.Result.{err_from_is_err_and}
use Rattle.lego_grammar.specs.Grammar.{item_of}
use Rattle.lego_parser.specs.private.Interning.{IsNumberingFault}
use Rattle.lego_parser.proofs.NumberingLemmas.{behind_next, behind_all, item_at, long_as, stopped_at}
use Rattle.lego_parser.proofs.interning.intern_names.Goals as goal

pub returns-in_err-intern_token-clause-cause : goal.returns-in_err-intern_token-clause-cause
returns-in_err-intern_token-clause-cause c =
    let p = err_from_is_err_and c.from_residual.result c.from_residual.ensures.1 in
    let kept = c.in_err-intern_token.ensures.err in
    let cause : IsNumberingFault c.in_err-intern_token.field-0.0 c.args.names.now (map (item_of c.args.text.now) c.args.tokens.now) c.loop-token.names =
    stopped_at c.args.text.now c.args.tokens.now c.loop-token.token-index _ c.loop-token-test.true c.in_err-intern_token.field-0.0 c.args.names.now c.loop-token.names
    c.loop-token.invariant c.in_err-intern_token.ensures.cause in
    rw (p.1, p.2, kept) cause

pub loop-token-preserved : goal.loop-token-preserved
loop-token-preserved c =
    let items = map (item_of c.args.text.now) c.args.tokens.now in
    let i = c.loop-token.token-index in
    let at = item_at c.args.text.now c.args.tokens.now i _ c.loop-token-test.true in
    let next = behind_next c.args.names.now items i _ (omega (arith, c.loop-token-test.true, long_as c.args.text.now c.args.tokens.now)) at in
    rw (add-one, next) (rw c.loop-token.invariant at c.in_ok-intern_token.ensures.ok)

pub returns-clause-ok : goal.returns-clause-ok
returns-clause-ok c =
    c.loop-token.invariant
    ∙ behind_all c.args.names.now (map (item_of c.args.text.now) c.args.tokens.now) c.loop-token.token-index (omega (arith, c.loop-token-test.false, long_as c.args.text.now c.args.tokens.now))
