use Rattle.std.proofs.Common.{sym, subst}
use Rattle.lego_parser.specs.Numbering.{NamesHaveRanges}
use Rattle.lego_parser.proofs.RangesOfNames.{names_have_ranges}
use Rattle.lego_text_tests.proofs.parser.parsed.Goals as goal

pub parse-requires-clause-ranges : goal.parse-requires-clause-ranges
parse-requires-clause-ranges c =
    subst (λ tokens. NamesHaveRanges c.args.text.now tokens) (sym c.deref-2.ensures.value)
    (names_have_ranges (record { line = 1; column = 1 }) c.args.text.now c.in-Ok.tokens.items c.in-Ok.ensures.tokens c.in-Ok.ensures.limits)
