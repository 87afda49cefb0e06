use Rattle.std.proofs.Common.{refl, ◌∙◌, arith}
use Rattle.std.proofs.lemmas.Grind.{common_steps}
use Rattle.lego_level.proofs.DraftLemmas.{found_zero, found_variable, set_zero, set_variable}
use Rattle.lego_level.proofs.draft.Draft.set.Goals as goal

pub returns-in-None-clause-before : goal.returns-in-None-clause-before
returns-in-None-clause-before c = let e = found_zero c.args.self.now c.args.node c.in-None.is in grind (arith, common_steps)

pub returns-in-None-clause-at : goal.returns-in-None-clause-at
returns-in-None-clause-at c = found_zero _ c.args.node c.in-None.is ∙ c.replace.ensures.after

pub returns-in-None-clause-other : goal.returns-in-None-clause-other
returns-in-None-clause-other c = set_zero c.args.self.now _ c.args.node c.in-None.is refl

pub returns-in_ok-insert-in-Some-clause-before : goal.returns-in_ok-insert-in-Some-clause-before
returns-in_ok-insert-in-Some-clause-before c = let e = found_variable c.args.self.now c.args.node c.in-Some.variable c.in-Some.is in grind (arith, common_steps)

pub returns-in_ok-insert-in-Some-clause-at : goal.returns-in_ok-insert-in-Some-clause-at
returns-in_ok-insert-in-Some-clause-at c = found_variable _ c.args.node c.in-Some.variable c.in-Some.is ∙ c.in_ok-insert-in-Some.ensures.updates.1

pub returns-in_ok-insert-in-Some-clause-other : goal.returns-in_ok-insert-in-Some-clause-other
returns-in_ok-insert-in-Some-clause-other c = set_variable c.args.self.now _ c.args.node c.in-Some.variable c.in-Some.is refl c.in_ok-insert-in-Some.ensures.updates.2
