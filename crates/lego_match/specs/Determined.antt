-- The answers that two terms determine, whatever the limit, and that they determine one.
use Rattle.std.specs.Prelude.{◌≡◌, ℕ, Option, Some, None, Result, Ok, Err}
use Rattle.lego_term.specs.Trees.{Core}
use Rattle.lego_laws.specs.Parallel.{CoreBodies}
use Rattle.lego_match.specs.Agreement.{AgreeIn}
use Rattle.lego_match.specs.Holes.{FreeHoles}
use Rattle.lego_match.specs.Answers.{IsCandidate, IsRefusedBy}
use Rattle.lego_match.specs.declared.answer.Candidate.{Candidate}
use Rattle.lego_match.specs.declared.fault.MatchFault.{MatchFault}
use Rattle.lego_match.specs.declared.fault.MatchFault.TheVariants.{Budget, TooLarge, Memory}

-- The answer holds of the two terms, which stand under so many locals: they agree, or it is their candidate, or a refusal of their
-- pair with its cause. The refusals for want of steps, room or memory are left out.
abbrev pub Determines : CoreBodies → FreeHoles → ℕ → Core → Core → Result (Option Candidate) MatchFault → Type 0
Determines b free locals t u (Ok None) = AgreeIn b t u
Determines b free locals t u (Ok (Some c)) = IsCandidate b free locals t u c.hole c.body
Determines b free locals t u (Err Budget) = ⊥
Determines b free locals t u (Err (TooLarge nodes levels)) = ⊥
Determines b free locals t u (Err Memory) = ⊥
Determines b free locals t u (Err fault) = IsRefusedBy b free locals t u 0 fault

-- there is at most one, with all its fields
abbrev pub AnswersAreOne : Type 0
AnswersAreOne =
    (b : CoreBodies) (free : FreeHoles) (locals : ℕ) (t u : Core) (x y : Result (Option Candidate) MatchFault)
    → Determines b free locals t u x → Determines b free locals t u y → x ≡ y
