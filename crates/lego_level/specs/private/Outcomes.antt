-- What comes of the searches for an added constraint, and of a look at the limit.
use Rattle.std.specs.Prelude.{◌≡◌, ℕ, ◌+◌, ◌<◌, ◌≤◌, List, ◌∷◌, Option, Some, None}
use Rattle.lego_level.specs.declared.constraint.Constraint.{Constraint}
use Rattle.lego_level.specs.declared.direction.Direction.{Direction}
use Rattle.lego_level.specs.declared.draft.Reached.{Reached}
use Rattle.lego_level.specs.declared.mend.Outcome.{Outcome}
use Rattle.lego_level.specs.declared.mend.Outcome.TheVariants.{Mended, Closed}
use Rattle.lego_level.specs.declared.search.Task.{Task}
use Rattle.lego_level.specs.declared.solver.Settled.{Settled}
use Rattle.lego_level.specs.declared.solver.Settled.TheVariants.{Within, Over}
use Rattle.lego_level.specs.private.Incidence.{near_of, far_of}
use Rattle.lego_level.specs.private.Potentials.{value_at, low_of, high_of, IsFeasible, IsBelowTop}
use Rattle.lego_level.specs.private.Searches.{reached_at, moved_to, IsTouched, Turns}

-- the search that way is to mend what the added constraint asks for more
pub record IsMending (way : Direction) (v : Option ℕ → ℕ) (t : Task) : Type 0 where
  pub direction : t.direction ≡ way
  pub lack : t.gain + high_of v t.added ≡ low_of v t.added
  pub more : 0 < t.gain
  pub apart : near_of way t.added ≡ far_of way t.added → ⊥

abbrev pub IsOutcome : (Option ℕ → ℕ) → List Constraint → Constraint → Outcome → Type 0
IsOutcome v cs e (Mended d) = IsFeasible (moved_to v (reached_at d)) (e ∷ cs) × IsTouched d
IsOutcome v cs e (Closed k) = (k.task.added ≡ e) × Turns k.task v cs (reached_at k.draft) k.closing

-- the values of the variables below n, laid out above the zero node; or one over the limit, with its cause
abbrev pub IsSettled : ℕ → ℕ → (Option ℕ → Reached) → Settled → Type 0
IsSettled n limit d (Within p) = ((u : ℕ) → u < n → value_at p (Some u) + (d None).value ≡ value_at p None + (d (Some u)).value)
    × ((u : ℕ) → value_at p None ≤ value_at p (Some u)) × ((u : ℕ) → value_at p (Some u) ≤ value_at p None + limit) × IsBelowTop p
IsSettled n limit d (Over c needed) = (u : ℕ) × (u < n) × ((d (Some u)).cause ≡ c) × (needed + (d None).value ≡ (d (Some u)).value) × (limit < needed)
