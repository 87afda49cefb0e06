use Rattle.std.proofs.Common.{◌≡◌, ◌+◌, ◌<◌, ◌≤◌, ℕ, None, Some}
use Rattle.lego_level.specs.declared.limits.TheConstants.{START}
use Rattle.lego_level.specs.private.Potentials.{value_at, IsBelowTop}
use Rattle.lego_level.specs.private.Searches.{reached_at}
use Rattle.lego_level.proofs.solver.lay_out.Given as goal

abbrev pub invariant-loop-variable : goal.invariant-loop-variable
invariant-loop-variable l = record {
  zero : value_at l.settled None ≡ START;
  values : (u : ℕ) → u < l.variable → value_at l.settled (Some u) + (reached_at l.draft None).value ≡ START + (reached_at l.draft (Some u)).value;
  rest : (u : ℕ) → l.variable ≤ u → value_at l.settled (Some u) ≡ START;
  within : (u : ℕ) → u < l.variable → (reached_at l.draft (Some u)).value ≤ (reached_at l.draft None).value + l.limit;
  top : IsBelowTop l.settled;
}
