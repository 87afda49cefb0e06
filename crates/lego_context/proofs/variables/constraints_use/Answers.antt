use Rattle.std.proofs.Common.{◌||◌, arith}
use Rattle.lego_term.specs.Levels.{LevelPair}
use Rattle.lego_term.specs.Trees.{is_over}
use Rattle.lego_level.specs.Graphs.{pair_of}
use Rattle.lego_context.proofs.VariableLemmas.{none_more, none_found, one_found}
use Rattle.lego_context.proofs.variables.constraints_use.Goals as goal

pub loop-constraint-preserved : goal.loop-constraint-preserved
loop-constraint-preserved c =
    none_more pair_of (λ (k : LevelPair). is_over c.args.variable k.low || is_over c.args.variable k.high) c.args.constraints.now c.loop-constraint.constraint-index _ c.constraint_uses.result
    (omega arith) c.loop-constraint.invariant c.constraint_uses.ensures c.if-constraint_uses.false

pub returns-then-constraint_uses : goal.returns-then-constraint_uses
returns-then-constraint_uses c =
    one_found pair_of (λ (k : LevelPair). is_over c.args.variable k.low || is_over c.args.variable k.high) c.args.constraints.now c.loop-constraint.constraint-index _ c.constraint_uses.result
    (omega arith) c.constraint_uses.ensures c.if-constraint_uses.true

pub returns : goal.returns
returns c =
    none_found pair_of (λ (k : LevelPair). is_over c.args.variable k.low || is_over c.args.variable k.high) c.args.constraints.now c.loop-constraint.constraint-index (omega arith)
    c.loop-constraint.invariant
