use Rattle.std.proofs.Common.{sym, arith}
use Rattle.lego_term.proofs.BoundLemmas.{mentions-low}
use Rattle.lego_term.proofs.constants.+mentions.Goals as goal

pub returns-then-from-constants : goal.returns-then-from-constants
returns-then-from-constants t c = sym (mentions-low c.args.number c.args.t.now (omega arith))
