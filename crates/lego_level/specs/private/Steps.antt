-- What a step of a search does.
use Rattle.std.specs.Prelude.{◌≡◌, ℕ, ◌<◌, List, [], Option}
use Rattle.lego_level.specs.declared.constraint.Constraint.{Constraint}
use Rattle.lego_level.specs.declared.search.Task.{Task}
use Rattle.lego_level.specs.declared.search.Search.{Search}
use Rattle.lego_level.specs.declared.search.Step.{Step}
use Rattle.lego_level.specs.declared.search.Step.TheVariants.{More, Ended, Stopped}
use Rattle.lego_level.specs.private.Measures.{measure}
use Rattle.lego_level.specs.private.Searches.{Searches, Stops}

abbrev pub IsStep : Task → (Option ℕ → ℕ) → List Constraint → Search → Search → Step → Type 0
IsStep t v cs old new More = Searches t v cs new × (measure t cs new < measure t cs old)
IsStep t v cs old new Ended = Searches t v cs new × (new.queue ≡ [])
IsStep t v cs old new (Stopped c) = Stops t v cs new c
