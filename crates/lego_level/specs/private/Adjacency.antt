-- The constraints that are kept at a node.
use Rattle.std.specs.Prelude.{ℕ, List, [], Option, Some, None, get_or}
use Rattle.lego_level.specs.declared.constraint.Constraint.{Constraint}
use Rattle.lego_level.specs.declared.edges.Adjacency.{Adjacency}

abbrev pub adjacent_at : Adjacency → Option ℕ → List Constraint
adjacent_at a None = a.zero
adjacent_at a (Some u) = get_or a.variables.items u []
