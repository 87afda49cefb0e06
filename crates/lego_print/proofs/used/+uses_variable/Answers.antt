use Rattle.std.proofs.Common.{sym, arith}
use Rattle.lego_print.proofs.Unused.{loose_unused}
use Rattle.lego_print.proofs.used.+uses_variable.Goals as goal

pub returns-then-loose-index : goal.returns-then-loose-index
returns-then-loose-index t c = sym (loose_unused c.args.index c.args.term.now (omega (arith, c.loose.ensures.exact, c.if-loose-index.true)))
