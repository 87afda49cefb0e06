-- What the count of a term's nodes answers, where the variables in scope are counted.
use Rattle.std.specs.Prelude.{◌≡◌, ℕ, ◌≤◌, ◌<◌, ◌⊎◌, nat_eq, if◌then◌else◌, List, [], ◌∷◌, length, Result, Ok, Err}
use Rattle.lego_term.specs.Trees.{Core}
use Rattle.lego_term.specs.Weight.{count}
use Rattle.lego_laws.specs.RuleTypes.{node_counting}
use Rattle.lego_inference.specs.declared.fault.Counted.TheVariants.{Levels}
use Rattle.lego_inference.specs.declared.fault.TypeFault.{TypeFault}
use Rattle.lego_inference.specs.declared.fault.TypeFault.TheVariants as why
use Rattle.lego_rule_types.specs.declared.nodes.Uncounted.{Uncounted}
use Rattle.lego_rule_types.specs.declared.nodes.Uncounted.TheVariants.{Over, Memory}

-- what variables count, where those of the list count so, the last of them variable 0
abbrev pub scope_of : List ℕ → ℕ → ℕ
scope_of [] i = 0
scope_of (x ∷ xs) i = if nat_eq i (length xs) then x else scope_of xs i

unfoldable pub nodes_in : List ℕ → Core → ℕ
nodes_in xs = count node_counting (scope_of xs)

-- the number, or that it is over the limit
abbrev pub Counts : ℕ → ℕ → Result ℕ Uncounted → Type 0
Counts n most (Ok counted) = counted ≡ n
Counts n most (Err Over) = most < n
Counts n most (Err Memory) = Unit {0}

-- the same, where the number is within the limit
abbrev pub IsCounted : ℕ → ℕ → Result ℕ Uncounted → Type 0
IsCounted n most (Ok counted) = (counted ≡ n) × (n ≤ most)
IsCounted n most (Err Over) = most < n
IsCounted n most (Err Memory) = Unit {0}

-- the number, or that it is over the limit of level variables
abbrev pub IsBehind : ℕ → Result ℕ TypeFault → Type 0
IsBehind n (Ok next) = (next ≡ n) × (n ≤ 1048576)
IsBehind n (Err fault) = (fault ≡ why.Memory) ⊎ ((fault ≡ why.Full Levels 1048576) × (1048576 < n))
