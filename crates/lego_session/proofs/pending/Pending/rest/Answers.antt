use Rattle.lego_session.proofs.PendingLemmas.{rest_blank, rest_unended, rest_open}
use Rattle.lego_session.proofs.pending.Pending.rest.Goals as goal

pub returns-in-Unended : goal.returns-in-Unended
returns-in-Unended c = λ place from bytes h. rest_unended c.args.self.now place from bytes h c.in-Unended.start (c.in-Unended.ensures.cut from bytes h.stands)

pub returns-in-OpenComment : goal.returns-in-OpenComment
returns-in-OpenComment c = λ place from bytes h. rest_open c.args.self.now place from bytes h c.in-OpenComment.start (c.in-OpenComment.ensures.cut from bytes h.stands)

pub returns-in-Blank : goal.returns-in-Blank
returns-in-Blank c = λ place from bytes h. rest_blank c.args.self.now place from bytes h (c.in-Blank.ensures.cut from bytes h.stands)
