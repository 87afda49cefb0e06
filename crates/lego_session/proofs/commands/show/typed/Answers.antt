use Rattle.std.proofs.Common.{inl, inr}
use Rattle.std.proofs.lemmas.Result.{err_from_is_err_and}
use Rattle.lego_grammar.specs.Surface.{written}
use Rattle.lego_session.proofs.ShowLemmas.{unread_fails, untyped_fails}
use Rattle.lego_session.proofs.ToldLemmas.{typing_told}
use Rattle.lego_session.proofs.commands.show.typed.Goals as goal

pub returns-in_err-core : goal.returns-in_err-core
returns-in_err-core c =
    let e = err_from_is_err_and c.from_residual.result c.from_residual.ensures.1 in
    rw (e.1, e.2)
    (unread_fails c.args.asked.limit c.args.context.now c.args.asked.place (written c.args.term.now) c.in_err-core.field-0.0 c.in_err-core.ensures.0, inl c.in_err-core.ensures.1)

pub untyped-requires : goal.untyped-requires
untyped-requires c = typing_told c.in-Err.ensures

pub returns-in-Err : goal.returns-in-Err
returns-in-Err c = (
  untyped_fails c.args.context.now c.read_at.new.context (written c.args.term.now) c.in_ok-core.core c.args.asked c.in-Err.fault c.untyped.result c.in_ok-core.ensures.0 c.in_ok-core.ensures.1
      c.in-Err.ensures c.untyped.ensures.place c.untyped.ensures.cause,
  inr c.in_ok-core.ensures.1,
)
