-- What the count of a term's height and weight answers, where the variables in scope are counted.
use Rattle.std.specs.Prelude.{◌≡◌, ℕ, ◌+◌, ◌-◌, ◌≤◌, ◌<◌, nat_eq, if◌then◌else◌, List, [], ◌∷◌, length, Result, Ok, Err}
use Rattle.std.specs.List.{AllByRecursion}
use Rattle.lego_term.specs.Trees.{Core}
use Rattle.lego_term.specs.Weight.{count, heights, weights}
use Rattle.lego_term.specs.declared.weight.Extent.{Extent}
use Rattle.lego_term.specs.declared.fault.TermFault.{TermFault}
use Rattle.lego_term.specs.declared.fault.TermFault.TheVariants.{TooLarge, Memory}

-- what variables count, where those of the list count so, the last of them variable 0
abbrev pub scope_of : (Extent → ℕ) → List Extent → ℕ → ℕ
scope_of f [] i = 1
scope_of f (x ∷ xs) i = if nat_eq i (length xs) then f x else scope_of f xs i

unfoldable pub height_in : List Extent → Core → ℕ
height_in xs = count heights (scope_of (λ x. x.height) xs)

unfoldable pub weight_in : List Extent → Core → ℕ
weight_in xs = count weights (scope_of (λ x. x.weight) xs)

abbrev pub IsWithin : Extent → Type 0
IsWithin x = (x.height ≤ 2000) × (x.weight ≤ 1048576)

-- by how much the numbers pass their limits
abbrev pub excess : ℕ → ℕ → ℕ
excess height weight = (height - 2000) + (weight - 1048576)

-- the numbers, or that one passes its limit
abbrev pub IsCounted : ℕ → ℕ → Result Extent TermFault → Type 0
IsCounted height weight (Ok x) = (x.height ≡ height) × (x.weight ≡ weight) × (height ≤ 2000) × (weight ≤ 1048576)
IsCounted height weight (Err (TooLarge size depth)) = (size ≡ 1048577) × (depth ≡ 2001) × (0 < excess height weight)
IsCounted height weight (Err Memory) = Unit {0}
