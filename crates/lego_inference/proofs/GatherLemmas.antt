-- What holds of each constraint that a check gathers.
use Rattle.std.proofs.Common.{◌≡◌, List, [], ◌∷◌, ◌++◌, Option, Some, None, refl, All}
use Rattle.std.proofs.lemmas.List.Elements.{All-nil, All-cons, All-append}
use Rattle.lego_base.specs.declared.place.Place.{Place}
use Rattle.lego_term.specs.declared.level.Level.{Level}
use Rattle.lego_laws.specs.Places.{Task, IsConstraintOfCore}
use Rattle.lego_level.specs.declared.constraint.Constraint.{Constraint}
use Rattle.lego_inference.specs.private.Gathering.{asked_at, asked_of_sort}

-- it has the place of the check
abbrev pub IsAt : Place → Constraint → Type 0
IsAt place c = c.place ≡ Some place

-- it is a constraint of the core
abbrev pub IsOf : Task → Constraint → Type 0
IsOf t c = IsConstraintOfCore t c.low c.high

pub at_none : (place : Place) → All (IsAt place) []
at_none place = All-nil (IsAt place)

pub at_one : (place : Place) (low high : Level) → All (IsAt place) (asked_at low high place)
at_one place low high = All-cons (IsAt place) (record { low = low; high = high; place = Some place }) [] refl (at_none place)

pub at_sort : (place : Place) (sort : Option Level) (l : Level) → All (IsAt place) (asked_of_sort sort l place)
at_sort place None l = at_none place
at_sort place (Some low) l = at_one place low l

pub at_both : (place : Place) (k l : List Constraint) → All (IsAt place) k → All (IsAt place) l → All (IsAt place) (k ++ l)
at_both place k l h i = All-append (IsAt place) k l h i

pub of_none : (t : Task) → All (IsOf t) []
of_none t = All-nil (IsOf t)

pub of_one : (t : Task) (place : Place) (low high : Level) → IsConstraintOfCore t low high → All (IsOf t) (asked_at low high place)
of_one t place low high h = All-cons (IsOf t) (record { low = low; high = high; place = Some place }) [] h (of_none t)

pub of_both : (t : Task) (k l : List Constraint) → All (IsOf t) k → All (IsOf t) l → All (IsOf t) (k ++ l)
of_both t k l h i = All-append (IsOf t) k l h i
