use Rattle.std.proofs.Common.{◌≡◌, map, take}
use Rattle.lego_reading.specs.declared.scope.Variable.{Variable}
use Rattle.lego_reading.specs.Failures.{plain_binder}
use Rattle.lego_reading.specs.private.Variables.{variable_of}
use Rattle.lego_reading.proofs.scope.Scope.binders.Given as goal

abbrev pub invariant-loop-variable : goal.invariant-loop-variable
invariant-loop-variable l = l.binders.items ≡ map (λ (x : Variable). plain_binder (variable_of x)) (take l.variable-index l.variable-items)
