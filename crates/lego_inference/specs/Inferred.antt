-- What a check answers behind Ok.
use Rattle.std.specs.Prelude.{◌≡◌, ℕ, ◌+◌, ◌≤◌, List, map, All, Some, None, Option}
use Rattle.lego_base.specs.declared.place.Place.{Place}
use Rattle.lego_term.specs.declared.level.Level.{Level}
use Rattle.lego_term.specs.Levels.{Assignment, LevelPair, SatisfiesAll}
use Rattle.lego_term.specs.Trees.{Core, Univ, at}
use Rattle.lego_term.specs.Sequences.{HeadForm}
use Rattle.lego_laws.specs.Parallel.{bodies_at}
use Rattle.lego_laws.specs.Entries.{core_bodies}
use Rattle.lego_laws.specs.Principal.{core_types}
use Rattle.lego_laws.specs.Derivations.{Derives}
use Rattle.lego_laws.specs.Places.{Task, HasShape, RuleTypeAt, IsConstraintOfCore, allowance}
use Rattle.lego_laws.specs.Ranges.{Context, FitsBetween, FitsWantedBetween, FitsWrittenBetween, sort_term}
use Rattle.lego_level.specs.declared.constraint.Constraint.{Constraint}
use Rattle.lego_level.specs.Graphs.{pairs_of}
use Rattle.lego_inference.specs.declared.entry.Judged.{Judged}
use Rattle.lego_inference.specs.Locals.{IsOver}
use Rattle.lego_inference.specs.Causes.{AreMeasured}

-- The constraints that a check gathers: each is one of the core, at the place of the check; the core has its shape, and is within
-- the limits of height and weight; and the level variables below `levels` are those held, and one for each node, within the limit.
pub record AreGathered (t : Task) (place : Place) (more : List Constraint) (levels : ℕ) : Type 0 where
  pub count : levels ≡ t.site.first + allowance t
  pub within : levels ≤ 1048576
  pub of_core : All (λ c. IsConstraintOfCore t c.low c.high) more
  pub placed : All (λ c. c.place ≡ Some place) more
  pub shape : HasShape t
  pub measured : AreMeasured t

-- the local types and the constants are a context over the level variables held, wherever these constraints are satisfied
abbrev pub IsContextOf : Task → List LevelPair → Type 0
IsContextOf t held = Context t.site.first (core_types t.entries) (core_bodies t.entries) held t.site.types

-- wherever constraints make a context, these and the gathered ones give the core the type, which is principal
abbrev pub FitsRuleType : Task → Judged → Type 0
FitsRuleType t judged =
    (held : List LevelPair) → IsContextOf t held
    → FitsBetween t.site.first judged.levels (core_types t.entries) (core_bodies t.entries) held t.site.types t.core judged.ty (pairs_of judged.constraints)

-- the core has the answered type, which is its rule type, and is over the entries, the locals and the level variables answered
pub record IsInferred (t : Task) (place : Place) (judged : Judged) : Type 0 where
  pub rule : RuleTypeAt t.entries t.site t.core judged.ty
  pub over : IsOver t.entries t.site.types judged.levels judged.ty
  pub fits : FitsRuleType t judged
  pub gathered : AreGathered t place judged.constraints judged.levels

-- the core is a type: the head form of its rule type is `Prop` or a universe
pub record IsInferredType (t : Task) (place : Place) (judged : Judged) : Type 0 where
  pub inferred : IsInferred t place judged
  pub sort : Option Level
  pub head : HeadForm (core_bodies t.entries) judged.ty (sort_term sort)

-- the core has the wanted type, where that is a type wherever the context's constraints are satisfied
pub record IsChecked (t : Task) (want : Core) (place : Place) (judged : Judged) : Type 0 where
  pub type : judged.ty ≡ want
  pub fits : (held : List LevelPair) → IsContextOf t held
      → ((v : Assignment) → SatisfiesAll v held
      → (j : ℕ) × Derives (bodies_at v (core_types t.entries)) (bodies_at v (core_bodies t.entries)) (map (at v) t.site.types) (at v want) (Univ j))
      → FitsWantedBetween t.site.first judged.levels (core_types t.entries) (core_bodies t.entries) held t.site.types t.core want (pairs_of judged.constraints)
  pub gathered : AreGathered t place judged.constraints judged.levels

-- the core has the written type, which is a type
pub record IsCheckedWritten (t : Task) (written : Core) (place : Place) (judged : Judged) : Type 0 where
  pub type : judged.ty ≡ written
  pub fits : (held : List LevelPair) → IsContextOf t held
      → FitsWrittenBetween t.site.first judged.levels (core_types t.entries) (core_bodies t.entries) held t.site.types t.core written (pairs_of judged.constraints)
  pub gathered : AreGathered t place judged.constraints judged.levels
