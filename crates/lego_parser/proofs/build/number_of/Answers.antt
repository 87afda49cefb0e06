use Rattle.std.proofs.Common.{◌∙◌, sym}
use Rattle.lego_parser.proofs.NumberingLemmas.{token_number, token_not_missed}
use Rattle.lego_parser.proofs.build.number_of.Goals as goal

pub unreachable-requires : goal.unreachable-requires
unreachable-requires c =
    token_not_missed c.args.text.now c.args.token c.in-Name.is c.args.names.now c.requires.numbered (sym c.find.ensures ∙ c.in_default-find.is)

pub returns : goal.returns
returns c = token_number c.args.text.now c.args.token c.in-Name.is c.args.names.now c.in-Some.number (sym c.find.ensures ∙ c.in-Some.is)
