-- What the reading of a part asks and answers.
use Rattle.std.specs.Prelude.{◌≡◌, ℕ, ◌+◌, ◌≤◌, List, length, IsSome, Result, Ok, Err}
use Rattle.std.specs.List.{AllByRecursion}
use Rattle.lego_base.specs.declared.place.Place.{Place}
use Rattle.lego_term.specs.Trees.{Core, size, depth, loose}
use Rattle.lego_term.specs.Made.{Fits, Passes}
use Rattle.lego_laws.specs.Entries.{Entry}
use Rattle.lego_grammar.specs.Written.{Written}
use Rattle.lego_grammar.specs.Scopes.{Scope, TypeVariables}
use Rattle.lego_grammar.specs.ReadingOrder.{ReadsWithin}
use Rattle.lego_inference.specs.Entries.{laws_entries}
use Rattle.lego_context.specs.Contexts.{Contents}
use Rattle.lego_reading.specs.declared.fault.ReadFault.{ReadFault}
use Rattle.lego_reading.specs.declared.fault.ReadFault.TheVariants.{TooLarge, Memory}
use Rattle.lego_reading.specs.Universes.{type_places, variables_for}
use Rattle.lego_reading.specs.Calls.{locals_within}
use Rattle.lego_reading.specs.Failures.{Fails}
use Rattle.lego_reading.specs.private.Variables.{AreOver}

-- there is room for the local variables and the universes, and each written `Type` has a level variable
pub record IsReady (c : Contents) (places : List Place) (scope : Scope) (s : Written) : Type 0 where
  pub few : length scope + locals_within s ≤ 61536
  pub held : AllByRecursion (λ p. IsSome (variables_for c.levels places p)) (type_places s)
  pub room : c.levels + length places ≤ 1048576
  pub over : AreOver scope

-- the core of a part, which is over the scope
pub record IsReading (es : List Entry) (types : TypeVariables) (scope : Scope) (s : Written) (core : Core) : Type 0 where
  pub within : ReadsWithin es types scope s core
  pub over : loose core ≤ length scope

-- the reading fails, or memory ran out
pub data Stops (es : List Entry) (types : TypeVariables) (limit : ℕ) (scope : Scope) (s : Written) : ReadFault → Type 0 where
  fails : {fault : ReadFault} → Fails es types limit scope s fault → Stops es types limit scope s fault
  memory : Stops es types limit scope s Memory

abbrev pub Outcome : List Entry → TypeVariables → ℕ → Scope → Written → Result Core ReadFault → Type 0
Outcome es types limit scope s (Ok core) = IsReading es types scope s core
Outcome es types limit scope s (Err fault) = Stops es types limit scope s fault

abbrev pub ReadsAs : Contents → List Place → ℕ → Scope → Written → Result Core ReadFault → Type 0
ReadsAs c places limit scope s result = Outcome (laws_entries c.entries) (variables_for c.levels places) limit scope s result

-- the tree; or its size and depth, where it passes a limit
abbrev pub IsMade : Core → Result Core ReadFault → Type 0
IsMade t (Ok made) = (made ≡ t) × Fits t
IsMade t (Err (TooLarge i j)) = (i ≡ size t) × (j ≡ depth t) × Passes t
IsMade t (Err Memory) = Unit {0}
IsMade t (Err _) = ⊥
