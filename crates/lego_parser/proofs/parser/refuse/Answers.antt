use Rattle.std.proofs.Common.{[], map, sym, subst}
use Rattle.lego_grammar.specs.Grammar.{item_of}
use Rattle.lego_parser.specs.Parsing.{IsNoCommand}
use Rattle.lego_parser.specs.private.Interning.{IsPlaced}
use Rattle.lego_parser.proofs.ParserLemmas.{some_token, stop_in, deep_in, unexpected_here, too_deep_here}
use Rattle.lego_parser.proofs.parser.refuse.Goals as goal

pub too_deep-requires : goal.too_deep-requires
too_deep-requires c = deep_in [] c.args.tokens.now c.args.scan (c.requires []) c.in-Some.at c.in-Some.is

pub unexpected-requires : goal.unexpected-requires
unexpected-requires c = stop_in [] c.args.tokens.now c.args.scan (c.requires [])

pub returns-in-Some-clause-cause : goal.returns-in-Some-clause-cause
returns-in-Some-clause-cause c = λ held bytes.
    subst (λ fault. IsNoCommand held (map (item_of bytes) c.args.tokens.now) fault) (sym (c.too_deep.ensures some_token))
    (too_deep_here bytes c.args.tokens.now c.args.scan (c.requires bytes) held some_token c.in-Some.at c.in-Some.is)

pub returns-in-None-clause-cause : goal.returns-in-None-clause-cause
returns-in-None-clause-cause c = λ held bytes.
    subst (λ fault. IsNoCommand held (map (item_of bytes) c.args.tokens.now) fault) (sym (c.unexpected.ensures some_token))
    (unexpected_here bytes c.args.tokens.now c.args.scan (c.requires bytes) held some_token c.in-None.is)

pub returns-in-Some-clause-placed : goal.returns-in-Some-clause-placed
returns-in-Some-clause-placed c = subst IsPlaced (sym (c.too_deep.ensures some_token)) tt

pub returns-in-None-clause-placed : goal.returns-in-None-clause-placed
returns-in-None-clause-placed c = subst IsPlaced (sym (c.unexpected.ensures some_token)) tt
