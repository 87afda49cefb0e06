use Rattle.lego_session.proofs.CommandLemmas.{token_range}
use Rattle.lego_session.proofs.command_text.not_parsed.Goals as goal

pub unexpected-requires-clause-range : goal.unexpected-requires-clause-range
unexpected-requires-clause-range c =
    let found = c.in-Some.ensures.found in
    (token_range c.args.place c.args.bytes.now c.args.tokens.now found.index c.in-Some.token c.requires.lexed.lexed found.there).0

pub unexpected-requires-clause-within : goal.unexpected-requires-clause-within
unexpected-requires-clause-within c =
    let found = c.in-Some.ensures.found in
    (token_range c.args.place c.args.bytes.now c.args.tokens.now found.index c.in-Some.token c.requires.lexed.lexed found.there).1
