use Rattle.std.proofs.Common.{sym, arith}
use Rattle.std.proofs.lemmas.Grind.{common_steps}
use Rattle.lego_level.proofs.PotentialLemmas.{value_zero, value_variable}
use Rattle.lego_level.proofs.potential.Potential.value.Goals as goal

pub returns-in_default : goal.returns-in_default
returns-in_default c = sym (value_zero c.args.self.now c.args.node c.in_default.is)

pub returns-in-Some-get : goal.returns-in-Some-get
returns-in-Some-get c = let e = value_variable c.args.self.now c.args.node c.in-Some.variable c.in-Some.is in grind (arith, common_steps)

pub returns-in-None : goal.returns-in-None
returns-in-None c = let e = value_variable c.args.self.now c.args.node c.in-Some.variable c.in-Some.is in grind (arith, common_steps)
