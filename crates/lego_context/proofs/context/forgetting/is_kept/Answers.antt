use Rattle.std.proofs.Common.{sym, arith}
use Rattle.lego_context.proofs.VariableLemmas.{unused}
use Rattle.lego_context.proofs.context.forgetting.is_kept.Goals as goal

pub returns-then-from-bound : goal.returns-then-from-bound
returns-then-from-bound c = sym (unused c.args.variable c.args.entries.now (omega arith))
