-- Free holes in terms: where one stands at the head, and where a term is one applied to just its own hypotheses.
use Rattle.std.specs.Prelude.{◌≡◌, ℕ, List, Bool, nat_eq, Option, Some, option_and_then}
use Rattle.std.specs.Option.{is_some}
use Rattle.std.specs.Map.{lookup}
use Rattle.lego_term.specs.Trees.{Core}
use Rattle.lego_term.specs.Parts.{head_constant, own_arguments}

-- the number of hypotheses of a constant that is a free hole
abbrev pub FreeHoles : Type 0
FreeHoles = ℕ → Option ℕ

-- the holes that are listed with these numbers
abbrev pub listed : List (ℕ × ℕ) → FreeHoles
listed holes k = lookup (nat_eq k) holes

-- a free hole stands at the head of the term, below applications and projections
abbrev pub has_free_head : FreeHoles → Core → Bool
has_free_head free t = is_some (option_and_then free (head_constant t))

-- under so many locals, the term is the free hole applied to just its own hypotheses, the outermost of the locals in order
pub record IsApplied (free : FreeHoles) (locals : ℕ) (t : Core) (hole hypotheses : ℕ) : Type 0 where
  pub head : head_constant t ≡ Some hole
  pub is_free : free hole ≡ Some hypotheses
  pub arguments : own_arguments locals t ≡ Some hypotheses
