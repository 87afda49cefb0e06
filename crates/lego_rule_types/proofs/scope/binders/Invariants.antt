use Rattle.std.proofs.Common.{◌≡◌, map, reverse, take}
use Rattle.lego_inference.specs.declared.locals.Local.{Local}
use Rattle.lego_rule_types.proofs.scope.binders.Given as goal

abbrev pub invariant-loop-at : goal.invariant-loop-at
invariant-loop-at l = l.binders.items ≡ map (λ (x : Local). x.binder) (take l.at (reverse l.locals))
