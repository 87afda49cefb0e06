-- What the normalisation of a part within other parts answers.
use Rattle.std.specs.Prelude.{◌≡◌, ℕ, zero, suc, ◌+◌, ◌≤◌, Option, Some, None, List, [], ◌∷◌, Result, Ok, Err}
use Rattle.lego_term.specs.Trees.{Core, Bodies, depth}
use Rattle.lego_term.specs.Sequences.{normal_step, after, MoreThan}
use Rattle.lego_term.specs.Parts.{Branch, IsTooLarge}
use Rattle.lego_term.specs.declared.binder.Binder.{Binder}
use Rattle.lego_term.specs.declared.binder.Mark.{Mark}
use Rattle.lego_term.specs.declared.level.Level.{Level}
use Rattle.lego_reduce.specs.declared.fault.ReduceFault.{ReduceFault}
use Rattle.lego_reduce.specs.declared.fault.ReduceFault.TheVariants.{Budget, TooLarge, Memory}
use Rattle.lego_reduce.specs.declared.head_form.Reduced.{Reduced}

-- so many parts at the front have no step
abbrev pub NormalBefore : Bodies Binder Mark Level → ℕ → List Branch → Type 0
NormalBefore bodies zero ps = Unit {0}
NormalBefore bodies (suc n) [] = Unit {0}
NormalBefore bodies (suc n) (p ∷ ps) = (normal_step bodies p.term ≡ None) × NormalBefore bodies n ps

-- the term that the sequence reaches, which has no next step unless it is too deep within so many parts
abbrev pub Arrives : (Core → Option Core) → Core → ℕ → ℕ → Core → ℕ → Type 0
Arrives next t limit nest u steps = (after next steps t ≡ Some u) × (steps ≤ limit) × (nest + depth u ≤ 2000 → next u ≡ None)

-- what is answered for a part: the term that is reached, or why none is
abbrev pub Goes : Bodies Binder Mark Level → Core → ℕ → ℕ → Result Reduced ReduceFault → Type 0
Goes bodies t limit nest (Ok reduced) = Arrives (normal_step bodies) t limit nest reduced.term reduced.steps
Goes bodies t limit nest (Err Budget) = MoreThan (normal_step bodies) t limit
Goes bodies t limit nest (Err (TooLarge nodes levels)) =
    (n : ℕ) × (u : Core) × (n ≤ limit) × (after (normal_step bodies) n t ≡ Some u) × IsTooLarge u nodes levels
Goes bodies t limit nest (Err Memory) = Unit {0}
