-- What a call that follows a sequence of steps answers.
use Rattle.std.specs.Prelude.{◌≡◌, ℕ, ◌≤◌, Option, Some, Result, Ok, Err}
use Rattle.lego_term.specs.Trees.{Core}
use Rattle.lego_term.specs.Sequences.{after, Ends, MoreThan}
use Rattle.lego_term.specs.Parts.{IsTooLarge}
use Rattle.lego_reduce.specs.declared.fault.ReduceFault.{ReduceFault}
use Rattle.lego_reduce.specs.declared.fault.ReduceFault.TheVariants.{Budget, TooLarge, Memory}
use Rattle.lego_reduce.specs.declared.head_form.Reduced.{Reduced}

-- The end of t's sequence and its length, which is within the limit; or the sequence has more steps; or it reaches
-- within the limit a term that has a subtree of these numbers over a limit of terms; or memory ran out.
abbrev pub Reduces : (Core → Option Core) → Core → ℕ → Result Reduced ReduceFault → Type 0
Reduces next t limit (Ok reduced) = Ends next t reduced.steps reduced.term × (reduced.steps ≤ limit)
Reduces next t limit (Err Budget) = MoreThan next t limit
Reduces next t limit (Err (TooLarge nodes levels)) =
    (n : ℕ) × (u : Core) × (n ≤ limit) × (after next n t ≡ Some u) × IsTooLarge u nodes levels
Reduces next t limit (Err Memory) = Unit {0}
