use Rattle.std.proofs.Common.{◌≡◌, List, map, take}
use Rattle.lego_inference.specs.declared.locals.Local.{Local}
use Rattle.lego_inference.proofs.locals.Locals.binders.Given as goal

abbrev pub invariant-loop-local : goal.invariant-loop-local
invariant-loop-local l = l.binders.items ≡ map (λ (x : Local). x.binder) (take l.local-index l.local-items)
