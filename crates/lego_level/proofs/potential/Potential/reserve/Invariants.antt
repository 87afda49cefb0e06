use Rattle.std.proofs.Common.{◌≡◌, ◌≤◌, ◌+◌, ◌-◌, length}
use Rattle.lego_level.specs.private.Potentials.{value_at}
use Rattle.lego_level.proofs.potential.Potential.reserve.Given as goal

abbrev pub invariant-loop-variable : goal.invariant-loop-variable
invariant-loop-variable l = record {
  same : value_at l.self ≡ value_at l.fn.self;
  top : l.self.top ≡ l.fn.self.top;
  longer : length l.fn.self.values.items ≤ length l.self.values.items;
}

abbrev pub decreases-loop-variable : goal.decreases-loop-variable
decreases-loop-variable l = l.variable + 1 - length l.self.values.items
