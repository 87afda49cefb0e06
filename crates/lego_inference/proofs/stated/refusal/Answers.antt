use Rattle.lego_inference.specs.Locals.{binders_of}
use Rattle.lego_inference.proofs.StatedLemmas.{refuses_mismatch, refuses_budget, refuses_large}
use Rattle.lego_inference.specs.private.Wanting.{Refuses}
use Rattle.lego_inference.proofs.stated.refusal.Goals as goal

pub returns-in-Differ : goal.returns-in-Differ
returns-in-Differ c = refuses_mismatch (binders_of c.args.locals.now) c.args.term.now c.args.have.now c.args.want.now c.args.fault.now _ _ _ c.mismatch.result c.in-Differ.is c.mismatch.ensures

pub returns-in-Budget : goal.returns-in-Budget
returns-in-Budget c = refuses_budget (binders_of c.args.locals.now) c.args.term.now c.args.have.now c.args.want.now c.args.fault.now c.over_budget.result c.in-Budget.is c.over_budget.ensures

pub returns-in-TooLarge : goal.returns-in-TooLarge
returns-in-TooLarge c = refuses_large (binders_of c.args.locals.now) c.args.term.now c.args.have.now c.args.want.now c.args.fault.now _ _ c.in-TooLarge.is

pub returns-in-Memory : goal.returns-in-Memory
returns-in-Memory c = Refuses.memory
