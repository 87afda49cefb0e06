use Rattle.std.proofs.Common.{subst, inr}
use Rattle.lego_grammar.specs.Surface.{written}
use Rattle.lego_session.specs.Texts.{IsTypingLine}
use Rattle.lego_session.proofs.ExtendLemmas.{no_hole-more}
use Rattle.lego_session.proofs.ShowLemmas.{shows_type, types_extend}
use Rattle.lego_session.proofs.commands.show.typing.Goals as goal

pub returns-in_err-core-clause-extends : goal.returns-in_err-core-clause-extends
returns-in_err-core-clause-extends c = types_extend c.args.context.now c.typed.new.context (written c.args.term.now) c.in_err-core.ensures.1

pub typing_line-requires : goal.typing_line-requires
typing_line-requires c =
    no_hole-more c.args.context.now c.typed.new.context (types_extend c.args.context.now c.typed.new.context (written c.args.term.now) (inr c.in_ok-core.ensures.1)) c.requires.no_hole

pub returns-in-Ok-clause-ok : goal.returns-in-Ok-clause-ok
returns-in-Ok-clause-ok c =
    shows_type c.args.names.now c.args.context.now c.typed.new.context (written c.args.term.now) c.in_ok-core.core c.in_ok-core.settled.judged c.in_ok-core.settled.values.items c.args.asked
    c.in_ok-core.ensures.0 c.in_ok-core.ensures.1 c.in-Ok.text.items
    (subst (λ values. IsTypingLine c.args.names.now values c.typed.new.context.entries c.in_ok-core.core c.in_ok-core.settled.judged.ty c.in-Ok.text.items) c.deref.ensures.value c.in-Ok.ensures)

pub returns-in-Ok-clause-extends : goal.returns-in-Ok-clause-extends
returns-in-Ok-clause-extends c = types_extend c.args.context.now c.typed.new.context (written c.args.term.now) (inr c.in_ok-core.ensures.1)

pub returns-clause-extends : goal.returns-clause-extends
returns-clause-extends c = types_extend c.args.context.now c.typed.new.context (written c.args.term.now) (inr c.in_ok-core.ensures.1)
