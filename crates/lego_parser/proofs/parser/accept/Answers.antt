use Rattle.std.proofs.Common.{map, sym, subst}
use Rattle.lego_grammar.specs.Grammar.{item_of}
use Rattle.lego_parser.specs.Parsing.{IsNoCommand}
use Rattle.lego_parser.proofs.ParserLemmas.{some_token, whole_shallow, whole_late, whole_deep}
use Rattle.lego_parser.proofs.parser.accept.Goals as goal

pub returns-in-Some-clause-cause : goal.returns-in-Some-clause-cause
returns-in-Some-clause-cause c = λ held bytes.
    subst (λ fault. IsNoCommand held (map (item_of bytes) c.args.tokens.now) fault) (sym (c.too_deep.ensures some_token))
    (whole_deep bytes c.args.tokens.now c.args.start c.args.scan c.requires.ends (c.requires.scanned bytes) c.requires.all held c.in-Some.at some_token c.in-Some.is c.if-at-tokens.true)

pub returns-in_default-clause-whole : goal.returns-in_default-clause-whole
returns-in_default-clause-whole c = λ bytes.
    whole_late bytes c.args.tokens.now c.args.start c.args.scan c.requires.ends (c.requires.scanned bytes) c.requires.all c.in-Some.at c.in-Some.is c.if-at-tokens.false

pub returns-in_default-2-clause-whole : goal.returns-in_default-2-clause-whole
returns-in_default-2-clause-whole c = λ bytes.
    whole_shallow bytes c.args.tokens.now c.args.start c.args.scan c.requires.ends (c.requires.scanned bytes) c.requires.all c.in_default.is
