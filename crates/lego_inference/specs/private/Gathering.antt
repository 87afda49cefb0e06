-- What rules add to the constraints.
use Rattle.std.specs.Prelude.{◌≡◌, ℕ, ◌+◌, ◌≤◌, List, [], ◌∷◌, ◌++◌, Option, Some, None, ◌⊎◌, Result, Ok, Err}
use Rattle.lego_base.specs.declared.place.Place.{Place}
use Rattle.lego_term.specs.Trees.{Core, Prop, Univ}
use Rattle.lego_term.specs.Levels.{variable_level}
use Rattle.lego_term.specs.declared.level.Level.{Level}
use Rattle.lego_laws.specs.Ranges.{raised_level}
use Rattle.lego_level.specs.declared.constraint.Constraint.{Constraint}
use Rattle.lego_inference.specs.declared.fault.Counted.TheVariants.{Levels}
use Rattle.lego_inference.specs.declared.fault.TypeFault.{TypeFault}
use Rattle.lego_inference.specs.declared.fault.TypeFault.TheVariants.{Full, Memory}
use Rattle.lego_inference.specs.declared.gathered.Gathered.{Gathered}
use Rattle.lego_inference.specs.declared.rules.Formed.{Formed}

-- the one level is at most the other, at the place
abbrev pub asked_at : Level → Level → Place → List Constraint
asked_at low high place = record { low = low; high = high; place = Some place } ∷ []

-- what a sort asks of the level that it is to be at most
abbrev pub asked_of_sort : Option Level → Level → Place → List Constraint
asked_of_sort None level place = []
asked_of_sort (Some low) level place = asked_at low level place

-- what both sorts ask of the level of a product or a Sigma type
abbrev pub asked_of_former : Formed → Place → List Constraint
asked_of_former f place = asked_of_sort f.domain f.own place ++ asked_of_sort f.body f.own place

-- the same of a product, which asks nothing where its body is a proposition
abbrev pub asked_of_product : Formed → Place → List Constraint
asked_of_product f place = of_body f.body
  where
    of_body : Option Level → List Constraint
    of_body None = []
    of_body (Some l) = asked_of_former f place

-- the type of a product
abbrev pub product_sort : Formed → Core
product_sort f = of_body f.body
  where
    of_body : Option Level → Core
    of_body None = Prop
    of_body (Some l) = Univ f.own

-- a universe's type is that of the next level variable; or there is none, or memory ran out
abbrev pub FindsUniverse : Level → Place → (old new : Gathered) → Result Core TypeFault → Type 0
FindsUniverse l place old new (Ok ty) =
    (ty ≡ Univ (variable_level old.levels))
    × (new.constraints.items ≡ old.constraints.items ++ asked_at (raised_level l) (variable_level old.levels) place)
    × (new.levels ≡ old.levels + 1)
FindsUniverse l place old new (Err fault) = (fault ≡ Memory) ⊎ ((fault ≡ Full Levels 1048576) × (1048576 ≤ old.levels))
