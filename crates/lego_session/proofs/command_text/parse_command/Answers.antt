use Rattle.std.proofs.Common.{sym, ◌∙◌}
use Rattle.lego_parser.proofs.RangesOfNames.{names_have_ranges}
use Rattle.lego_session.proofs.CommandLemmas.{ends_so, its_token, not_parsed_unread, numbered_command, first_token, unbuilt_unread, token_range, written_form}
use Rattle.lego_session.proofs.command_text.parse_command.Goals as goal

pub parse-requires-clause-ranges : goal.parse-requires-clause-ranges
parse-requires-clause-ranges c = names_have_ranges c.args.place c.args.bytes.now c.args.tokens.now c.requires.lexed.lexed c.requires.lexed.within

pub parse-requires-clause-ends : goal.parse-requires-clause-ends
parse-requires-clause-ends c = ends_so c.args.place c.args.bytes.now c.args.tokens.now c.requires.text c.requires.lexed.lexed

pub not_parsed-requires-clause-token : goal.not_parsed-requires-clause-token
not_parsed-requires-clause-token c = its_token c.args.names.now c.args.bytes.now c.args.tokens.now c.in-Err.fault c.in-Err.ensures.cause

pub returns-in-Err-clause-unread : goal.returns-in-Err-clause-unread
returns-in-Err-clause-unread c =
    not_parsed_unread c.args.names.now c.parse.new.names c.args.place c.args.bytes.now c.args.tokens.now c.in-Err.fault _ _ c.requires.lexed c.in-Err.ensures.cause c.in-Err.ensures.kept c.not_parsed.ensures

pub returns-then-is_built-clause-command : goal.returns-then-is_built-clause-command
returns-then-is_built-clause-command c =
    numbered_command c.args.names.now c.parse.new.names c.args.place c.args.bytes.now c.args.tokens.now _ c.requires.lexed c.in-Ok.ensures.command c.in-Ok.ensures.numbered

pub returns-then-is_built-clause-form : goal.returns-then-is_built-clause-form
returns-then-is_built-clause-form c = written_form c.args.place c.args.bytes.now c.args.tokens.now c.in-Ok.command c.requires.lexed c.in-Ok.ensures.form

pub unreachable-requires : goal.unreachable-requires
unreachable-requires c = first_token c.parse.new.names c.args.bytes.now c.args.tokens.now _ c.in-Ok.ensures.command (sym c.in_default.ensures.value)

pub unexpected-requires-clause-range : goal.unexpected-requires-clause-range
unexpected-requires-clause-range c = (token_range c.args.place c.args.bytes.now c.args.tokens.now 0 c.in-Some.first.now c.requires.lexed.lexed (sym c.in-Some.ensures.value)).0

pub unexpected-requires-clause-within : goal.unexpected-requires-clause-within
unexpected-requires-clause-within c = (token_range c.args.place c.args.bytes.now c.args.tokens.now 0 c.in-Some.first.now c.requires.lexed.lexed (sym c.in-Some.ensures.value)).1

pub returns-clause-unread : goal.returns-clause-unread
returns-clause-unread c =
    unbuilt_unread c.args.names.now c.parse.new.names c.args.place c.args.bytes.now c.args.tokens.now _ c.in-Some.first.now _ _ c.requires.lexed c.in-Ok.ensures.command
    c.in-Ok.ensures.numbered (sym c.is_built.ensures ∙ c.if-is_built.false) (sym c.in-Some.ensures.value) c.unexpected.ensures
