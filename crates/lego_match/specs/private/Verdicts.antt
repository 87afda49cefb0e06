-- What the parts of a match make of the corresponding pair. A tool of the proofs.
use Rattle.std.specs.Prelude.{◌≡◌, ℕ, ◌-◌, ◌<◌, ◌⊎◌, List, Option, Some, None, Result, Ok, Err, IsTrue, IsFalse}
use Rattle.lego_term.specs.declared.binder.Binder.{Binder}
use Rattle.lego_term.specs.Trees.{Core, lift, mentions}
use Rattle.lego_laws.specs.Parallel.{CoreBodies}
use Rattle.lego_match.specs.Agreement.{AgreeIn}
use Rattle.lego_match.specs.Holes.{FreeHoles, has_free_head}
use Rattle.lego_match.specs.Answers.{first_below, IsSolved, OccursIn, Escapes, IsHigherOrder, Clashes, IsCandidate, IsRefusedBy}
use Rattle.lego_match.specs.declared.answer.Candidate.{Candidate}
use Rattle.lego_match.specs.declared.holes.Hole.{Hole}
use Rattle.lego_match.specs.declared.fault.MatchFault.{MatchFault}
use Rattle.lego_match.specs.declared.fault.MatchFault.TheVariants.{Clash, Occurs, Scope, HigherOrder, Budget, TooLarge, Memory}

-- what the hole and the other part give, under so many locals
abbrev pub IsSolution : Hole → Core → ℕ → List Binder → Result (Option Candidate) MatchFault → Type 0
IsSolution hole other locals xs (Ok (Some c)) =
    (c.hole ≡ hole.number) × IsFalse (mentions hole.number other) × (lift 0 (locals - hole.hypotheses) c.body ≡ other)
IsSolution hole other locals xs (Ok None) = ⊥
IsSolution hole other locals xs (Err (Occurs k)) = (k ≡ hole.number) × IsTrue (mentions hole.number other)
IsSolution hole other locals xs (Err (Scope k i ys)) =
    (k ≡ hole.number) × (ys ≡ xs) × IsFalse (mentions hole.number other)
    × (first_below (locals - hole.hypotheses) 0 other ≡ Some i) × (i < locals - hole.hypotheses)
IsSolution hole other locals xs (Err Memory) = Unit {0}
IsSolution hole other locals xs (Err _) = ⊥

-- the refusal of a pair of which neither part is a free hole applied to its own hypotheses
abbrev pub IsUnsolved : FreeHoles → Core → Core → List Binder → MatchFault → Type 0
IsUnsolved free p q xs (HigherOrder left right ys) =
    (left ≡ p) × (right ≡ q) × (ys ≡ xs) × (IsTrue (has_free_head free p) ⊎ IsTrue (has_free_head free q))
IsUnsolved free p q xs (Clash left right ys) =
    (left ≡ p) × (right ≡ q) × (ys ≡ xs) × IsFalse (has_free_head free p) × IsFalse (has_free_head free q)
IsUnsolved free p q xs _ = ⊥

-- what the pair gives, under so many locals
abbrev pub IsVerdict : FreeHoles → ℕ → Core → Core → List Binder → Result (Option Candidate) MatchFault → Type 0
IsVerdict free locals p q xs (Ok (Some c)) = IsSolved free locals p q c.hole c.body
IsVerdict free locals p q xs (Ok None) = ⊥
IsVerdict free locals p q xs (Err (Occurs k)) = OccursIn free locals p q k
IsVerdict free locals p q xs (Err (Scope k i ys)) = (ys ≡ xs) × Escapes free locals p q k i
IsVerdict free locals p q xs (Err (HigherOrder left right ys)) = (left ≡ p) × (right ≡ q) × (ys ≡ xs) × IsHigherOrder free locals p q
IsVerdict free locals p q xs (Err (Clash left right ys)) = (left ≡ p) × (right ≡ q) × (ys ≡ xs) × Clashes free p q
IsVerdict free locals p q xs (Err Memory) = Unit {0}
IsVerdict free locals p q xs (Err _) = ⊥

-- the answer for two terms, which stand under so many locals
abbrev pub IsAnswer : CoreBodies → FreeHoles → ℕ → Core → Core → ℕ → Result (Option Candidate) MatchFault → Type 0
IsAnswer b free locals t u limit (Ok (Some c)) = IsCandidate b free locals t u c.hole c.body
IsAnswer b free locals t u limit (Ok None) = AgreeIn b t u
IsAnswer b free locals t u limit (Err fault) = IsRefusedBy b free locals t u limit fault

-- the answer for two normal forms, for which no limit counts
abbrev pub IsNormalAnswer : CoreBodies → FreeHoles → ℕ → Core → Core → Result (Option Candidate) MatchFault → Type 0
IsNormalAnswer b free locals t u (Err Budget) = ⊥
IsNormalAnswer b free locals t u (Err (TooLarge nodes levels)) = ⊥
IsNormalAnswer b free locals t u (Err (Clash left right ys)) = IsAnswer b free locals t u 0 (Err (Clash left right ys))
IsNormalAnswer b free locals t u (Err (Occurs k)) = IsAnswer b free locals t u 0 (Err (Occurs k))
IsNormalAnswer b free locals t u (Err (Scope k i ys)) = IsAnswer b free locals t u 0 (Err (Scope k i ys))
IsNormalAnswer b free locals t u (Err (HigherOrder left right ys)) = IsAnswer b free locals t u 0 (Err (HigherOrder left right ys))
IsNormalAnswer b free locals t u (Err Memory) = Unit {0}
IsNormalAnswer b free locals t u (Ok found) = IsAnswer b free locals t u 0 (Ok found)
