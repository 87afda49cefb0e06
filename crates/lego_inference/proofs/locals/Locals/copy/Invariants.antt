use Rattle.std.proofs.Common.{◌≡◌, take}
use Rattle.lego_inference.proofs.locals.Locals.copy.Given as goal

abbrev pub invariant-loop-local : goal.invariant-loop-local
invariant-loop-local l = l.items.items ≡ take l.local-index l.local-items
