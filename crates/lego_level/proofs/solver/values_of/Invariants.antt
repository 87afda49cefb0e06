use Rattle.std.proofs.Common.{◌≡◌, ◌+◌, ◌<◌, ℕ, None, Some, length, get_or}
use Rattle.lego_level.specs.private.Searches.{reached_at}
use Rattle.lego_level.proofs.solver.values_of.Given as goal

abbrev pub invariant-loop-variable : goal.invariant-loop-variable
invariant-loop-variable l = record {
  len : length l.values.items ≡ l.variable;
  values : (u : ℕ) → u < l.variable → get_or l.values.items u 0 + (reached_at l.draft None).value ≡ (reached_at l.draft (Some u)).value;
}
