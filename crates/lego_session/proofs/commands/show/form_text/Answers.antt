use Rattle.std.proofs.Common.{subst, inr}
use Rattle.std.proofs.lemmas.Result.{err_from_is_err_and}
use Rattle.lego_grammar.specs.Surface.{written}
use Rattle.lego_session.specs.Texts.{IsTermLine}
use Rattle.lego_session.specs.private.Shown.{form_of}
use Rattle.lego_session.proofs.ExtendLemmas.{no_hole-more}
use Rattle.lego_session.proofs.ShowLemmas.{shows_form, form_fails, no_type_fails, types_extend}
use Rattle.lego_session.proofs.commands.show.form_text.Goals as goal

pub returns-in_err-core-clause-cause : goal.returns-in_err-core-clause-cause
returns-in_err-core-clause-cause c =
    let e = err_from_is_err_and c.from_residual.result c.from_residual.ensures.1 in
    rw (e.1, e.2)
    (no_type_fails (form_of c.args.form) c.args.asked.limit c.args.context.now c.args.asked.place (written c.args.term.now) c.in_err-core.field-0.0 c.in_err-core.ensures.0)

pub returns-in_err-core-clause-extends : goal.returns-in_err-core-clause-extends
returns-in_err-core-clause-extends c = types_extend c.args.context.now c.typed.new.context (written c.args.term.now) c.in_err-core.ensures.1

pub returns-in_err-reached-clause-cause : goal.returns-in_err-reached-clause-cause
returns-in_err-reached-clause-cause c =
    let e = err_from_is_err_and c.from_residual-in_err-reached.result c.from_residual-in_err-reached.ensures.1 in
    rw (e.1, e.2)
    (form_fails c.args.names.now c.args.context.now c.typed.new.context (written c.args.term.now) c.in_ok-core.core c.in_ok-core.settled.judged c.in_ok-core.settled.values.items c.args.asked
    c.in_ok-core.ensures.0 c.in_ok-core.ensures.1 (form_of c.args.form) c.in_err-reached.field-0.0 c.in_err-reached.ensures)

pub returns-in_err-reached-clause-extends : goal.returns-in_err-reached-clause-extends
returns-in_err-reached-clause-extends c = types_extend c.args.context.now c.typed.new.context (written c.args.term.now) (inr c.in_ok-core.ensures.1)

pub term_line-requires : goal.term_line-requires
term_line-requires c =
    no_hole-more c.args.context.now c.typed.new.context (types_extend c.args.context.now c.typed.new.context (written c.args.term.now) (inr c.in_ok-core.ensures.1)) c.requires.no_hole

pub returns-in-Ok-clause-ok : goal.returns-in-Ok-clause-ok
returns-in-Ok-clause-ok c =
    shows_form c.args.names.now c.args.context.now c.typed.new.context (written c.args.term.now) c.in_ok-core.core c.in_ok-core.settled.judged c.in_ok-core.settled.values.items c.args.asked
    c.in_ok-core.ensures.0 c.in_ok-core.ensures.1 (form_of c.args.form) c.in_ok-reached.reached c.in-Ok.text.items c.in_ok-reached.ensures
    (subst (λ values. IsTermLine c.args.names.now values c.typed.new.context.entries c.in_ok-reached.reached c.in-Ok.text.items) c.deref.ensures.value c.in-Ok.ensures)

pub returns-in-Ok-clause-extends : goal.returns-in-Ok-clause-extends
returns-in-Ok-clause-extends c = types_extend c.args.context.now c.typed.new.context (written c.args.term.now) (inr c.in_ok-core.ensures.1)

pub returns-clause-extends : goal.returns-clause-extends
returns-clause-extends c = types_extend c.args.context.now c.typed.new.context (written c.args.term.now) (inr c.in_ok-core.ensures.1)
