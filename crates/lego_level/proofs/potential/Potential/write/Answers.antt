use Rattle.std.proofs.Common.{refl, arith}
use Rattle.std.proofs.lemmas.Grind.{common_steps}
use Rattle.lego_level.proofs.PotentialLemmas.{value_zero, zero_other, set_at, set_other, top_zero, top_set, room_variable}
use Rattle.lego_level.proofs.potential.Potential.write.Goals as goal

pub returns-in-None-clause-at : goal.returns-in-None-clause-at
returns-in-None-clause-at c = value_zero _ c.args.node c.in-None.is

pub returns-in-None-clause-other : goal.returns-in-None-clause-other
returns-in-None-clause-other c = zero_other c.args.self.now _ c.args.node c.in-None.is refl

pub returns-in-None-clause-top : goal.returns-in-None-clause-top
returns-in-None-clause-top c = top_zero c.args.self.now _ c.args.node c.in-None.is (returns-in-None-clause-other c) refl

pub returns-in-Some-clause-at : goal.returns-in-Some-clause-at
returns-in-Some-clause-at c = set_at c.args.self.now _ c.args.node c.in-Some.variable c.args.value c.in-Some.is refl (room_variable c.args.self.now c.args.node c.in-Some.variable c.in-Some.is c.requires)

pub returns-in-Some-clause-other : goal.returns-in-Some-clause-other
returns-in-Some-clause-other c = set_other c.args.self.now _ c.args.node c.in-Some.variable c.args.value c.in-Some.is refl refl

pub returns-in-Some-clause-top : goal.returns-in-Some-clause-top
returns-in-Some-clause-top c = top_set c.args.self.now _ c.args.node c.in-Some.variable c.args.value c.in-Some.is (returns-in-Some-clause-at c) (returns-in-Some-clause-other c) (grind (arith, common_steps)) (grind (arith, common_steps))
