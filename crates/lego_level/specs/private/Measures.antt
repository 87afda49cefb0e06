-- How much a search still has to do at the most.
use Rattle.std.specs.Prelude.{ℕ, zero, suc, ◌+◌, ◌*◌, Bool, true, false, List, [], ◌∷◌, Option, Some, None, length}
use Rattle.lego_level.specs.declared.constraint.Constraint.{Constraint}
use Rattle.lego_level.specs.declared.search.Task.{Task}
use Rattle.lego_level.specs.declared.search.Search.{Search}
use Rattle.lego_level.specs.private.Searches.{reached_at}

abbrev pub miss : Bool → ℕ
miss true = 0
miss false = 1

-- how many of the first n variables fail a test
abbrev pub unseen_below : (Option ℕ → Bool) → ℕ → ℕ
unseen_below p zero = 0
unseen_below p (suc n) = miss (p (Some n)) + unseen_below p n

-- the same, with the zero node
abbrev pub unseen : (Option ℕ → Bool) → ℕ → ℕ
unseen p n = miss (p None) + unseen_below p n

abbrev pub above : Option ℕ → ℕ
above None = 0
above (Some u) = u + 1

-- above each variable of the constraints
abbrev pub ceiling : List Constraint → ℕ
ceiling [] = 0
ceiling (c ∷ cs) = above c.low.base + above c.high.base + ceiling cs

abbrev pub nodes_below : Task → List Constraint → ℕ
nodes_below t cs = ceiling (t.added ∷ cs) + t.count

-- more than the constraints at one node
abbrev pub width : Task → List Constraint → ℕ
width t cs = length cs + t.count + 2

unfoldable pub measure : Task → List Constraint → Search → ℕ
measure t cs s = unseen (λ u. (reached_at s.draft u).done) (nodes_below t cs) * width t cs + length s.queue
