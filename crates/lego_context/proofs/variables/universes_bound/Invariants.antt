use Rattle.std.proofs.Common.{◌≡◌, take}
use Rattle.lego_context.specs.Forgetting.{universes_bound}
use Rattle.lego_context.proofs.variables.universes_bound.Given as goal

abbrev pub invariant-loop-universe : goal.invariant-loop-universe
invariant-loop-universe l = l.bound ≡ universes_bound (take l.universe-index l.universes)
