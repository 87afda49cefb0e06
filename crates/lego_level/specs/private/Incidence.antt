-- The ends of a constraint as a search meets them, and the constraints at a node.
use Rattle.std.specs.Prelude.{ℕ, Bool, true, false, ◌==◌, List, Option, Some, None, filter}
use Rattle.lego_level.specs.declared.constraint.Constraint.{Constraint}
use Rattle.lego_level.specs.declared.direction.Direction.{Direction}
use Rattle.lego_level.specs.declared.direction.Direction.TheVariants.{Up, Down}

-- the node from which a search comes
abbrev pub near_of : Direction → Constraint → Option ℕ
near_of Up c = c.low.base
near_of Down c = c.high.base

-- the node to which it goes
abbrev pub far_of : Direction → Constraint → Option ℕ
far_of Up c = c.high.base
far_of Down c = c.low.base

abbrev pub is_node : Option ℕ → Option ℕ → Bool
is_node None None = true
is_node None (Some w) = false
is_node (Some u) None = false
is_node (Some u) (Some w) = w == u

-- the constraints along which a search goes from a node
abbrev pub incident : Direction → Option ℕ → List Constraint → List Constraint
incident way u = filter (λ c. is_node u (near_of way c))
