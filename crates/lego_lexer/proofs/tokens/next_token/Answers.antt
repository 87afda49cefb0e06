use Rattle.lego_lexer.specs.Tokens.{FaultAt}
use Rattle.lego_lexer.proofs.LexLemmas.{next_answer, fault_there}
use Rattle.lego_lexer.proofs.tokens.next_token.Goals as goal

pub returns-in-At : goal.returns-in-At
returns-in-At c =
    let s = c.in-At.ensures in
    next_answer c.args.bytes.now c.args.from c.advance.result c.in-At.at c.token_at.result c.advance.ensures.index s.0 s.1 s.2 s.3 c.advance.ensures.place c.token_at.ensures

pub returns-in-Open : goal.returns-in-Open
returns-in-Open c =
    let s = c.in-Open.ensures in
    fault_there c.args.bytes.now c.args.from c.in-Open.at c.advance-in-Open.result.place _ s.0 s.2 c.advance-in-Open.ensures.place (FaultAt.open_comment s.3)
