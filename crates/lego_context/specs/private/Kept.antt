-- What a context keeps beside its entries.
use Rattle.std.specs.Prelude.{◌≡◌, ℕ, suc, List, [], ◌∷◌, Option, Some, None}
use Rattle.lego_level.specs.declared.constraint.Constraint.{Constraint}
use Rattle.lego_inference.specs.declared.entry.Entry.{Entry as Item}
use Rattle.lego_context.specs.Entries.{constraints_of, IsLeastFree}

-- a name, where there is one, with its place
abbrev pub with_name : Option ℕ → ℕ → List (ℕ × ℕ) → List (ℕ × ℕ)
with_name None at places = places
with_name (Some name) at places = (name, at) ∷ places

-- the names of entries, each with its place, where the first stands at n
abbrev pub places_from : ℕ → List Item → List (ℕ × ℕ)
places_from n [] = []
places_from n (e ∷ es) = with_name e.name n (places_from (suc n) es)

-- the names with their places, the constraints of the graph, and the least free number
pub record IsKept (es : List Item) (places : List (ℕ × ℕ)) (constraints : List Constraint) (number : ℕ) : Type 0 where
  pub names : places ≡ places_from 0 es
  pub graph : constraints ≡ constraints_of es
  pub free : IsLeastFree es number
