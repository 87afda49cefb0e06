use Rattle.lego_session.proofs.AnswerLemmas.{numbered, long_written}
use Rattle.lego_session.proofs.answers.refuse_long.Goals as goal

pub returns : goal.returns
returns c =
    long_written c.args.names.now c.args.session.now c.args.place c.args.count _ c.written.result
    (numbered _ _ c.len-count.ensures.exact c.len-count.ensures.limit c.len-count.ensures.distinct) c.requires c.refusal.ensures c.written.ensures
