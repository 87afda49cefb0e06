use Rattle.lego_parser.proofs.ParserLemmas.{context_further, other_further, other_is_behind, context_is_inside}
use Rattle.std.proofs.Common.{arith}
use Rattle.lego_parser.proofs.parser.later.Goals as goal

pub returns-then-context-other : goal.returns-then-context-other
returns-then-context-other c = λ items x y lx ly. context_further items c.args.context c.args.other x y lx ly c.if-context-other.true

pub returns-then-context-other-2 : goal.returns-then-context-other-2
returns-then-context-other-2 c = λ items x y lx ly. other_further items c.args.context c.args.other x y lx ly c.if-context-other-2.true

pub returns-in-Behind : goal.returns-in-Behind
returns-in-Behind c = λ items x y lx ly.
    other_is_behind items c.args.context c.args.other x y lx ly (omega (arith, c.if-context-other.false, c.if-context-other-2.false)) c.in-Behind.is

pub returns-in_default : goal.returns-in_default
returns-in_default c = λ items x y lx ly.
    context_is_inside items c.args.context c.args.other x y lx ly (omega (arith, c.if-context-other.false, c.if-context-other-2.false)) c.in_default.not-Behind
