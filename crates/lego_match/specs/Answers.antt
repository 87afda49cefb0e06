-- What the corresponding pair of two terms gives: a hole's body, or why there is none.
use Rattle.std.specs.Prelude.{◌≡◌, ℕ, suc, ◌+◌, ◌-◌, ◌<◌, ◌≤◌, ◌⊎◌, nat_lt, if◌then◌else◌, List, length, Option, Some, None, IsTrue, IsFalse}
use Rattle.lego_term.specs.declared.binder.Binder.{Binder}
use Rattle.lego_term.specs.Trees.{Core, Var, Const, Prop, Univ, Pi, Lam, App, Sigma, Pair, Fst, Snd, Let, lift, loose, mentions}
use Rattle.lego_term.specs.Parts.{Shape, shape_of, IsTooLarge}
use Rattle.lego_term.specs.Sequences.{or_else, normal_step, after, CostMoreThan}
use Rattle.lego_laws.specs.Parallel.{CoreBodies}
use Rattle.lego_match.specs.Holes.{FreeHoles, has_free_head, IsApplied}
use Rattle.lego_match.specs.Pairs.{Corresponds}
use Rattle.lego_match.specs.declared.fault.MatchFault.{MatchFault}
use Rattle.lego_match.specs.declared.fault.MatchFault.TheVariants.{Clash, Occurs, Scope, HigherOrder, Budget, TooLarge, Memory}

-- under so many locals, the free hole that one of the two is, applied to just its own hypotheses, and the other of the two;
-- where both are such holes, that with the greater number
pub data Solves (free : FreeHoles) (locals : ℕ) : Core → Core → ℕ → ℕ → Core → Type 0 where
  of_left : {p q : Core} {hole hypotheses : ℕ}
      → IsApplied free locals p hole hypotheses → ((k n : ℕ) → IsApplied free locals q k n → k < hole) → Solves free locals p q hole hypotheses q
  of_right : {p q : Core} {hole hypotheses : ℕ}
      → IsApplied free locals q hole hypotheses → ((k n : ℕ) → IsApplied free locals p k n → k < hole) → Solves free locals p q hole hypotheses p

-- the loose variable that stands first in the term, left to right, among those below the bound; binders crossed are passed by
abbrev pub first_below : ℕ → ℕ → Core → Option ℕ
first_below bound crossed (Var i) = if nat_lt i crossed then None else if nat_lt i (crossed + bound) then Some (i - crossed) else None
first_below bound crossed (Const k) = None
first_below bound crossed Prop = None
first_below bound crossed (Univ l) = None
first_below bound crossed (Pi x a b) = or_else (first_below bound crossed a) (first_below bound (suc crossed) b)
first_below bound crossed (Lam x a m) = or_else (first_below bound crossed a) (first_below bound (suc crossed) m)
first_below bound crossed (App k m n) = or_else (first_below bound crossed m) (first_below bound crossed n)
first_below bound crossed (Sigma x a b) = or_else (first_below bound crossed a) (first_below bound (suc crossed) b)
first_below bound crossed (Pair x a b m n) =
    or_else (first_below bound crossed a)
    (or_else (first_below bound (suc crossed) b) (or_else (first_below bound crossed m) (first_below bound crossed n)))
first_below bound crossed (Fst m) = first_below bound crossed m
first_below bound crossed (Snd m) = first_below bound crossed m
first_below bound crossed (Let x m n) = or_else (first_below bound crossed m) (first_below bound (suc crossed) n)

-- The other part doesn't mention the hole, and the body is that part without the locals beyond the hole's hypotheses. So the body
-- stands under the hypotheses alone.
pub record IsSolved (free : FreeHoles) (locals : ℕ) (p q : Core) (hole : ℕ) (body : Core) : Type 0 where
  pub hypotheses : ℕ
  pub other : Core
  pub solves : Solves free locals p q hole hypotheses other
  pub absent : IsFalse (mentions hole other)
  pub lowered : lift 0 (locals - hypotheses) body ≡ other
  pub scoped : loose body ≤ hypotheses

-- the other part mentions the hole
pub record OccursIn (free : FreeHoles) (locals : ℕ) (p q : Core) (hole : ℕ) : Type 0 where
  pub hypotheses : ℕ
  pub other : Core
  pub solves : Solves free locals p q hole hypotheses other
  pub inside : IsTrue (mentions hole other)

-- the other part doesn't mention the hole, and the variable is the first local in it beyond the hole's hypotheses
pub record Escapes (free : FreeHoles) (locals : ℕ) (p q : Core) (hole variable : ℕ) : Type 0 where
  pub hypotheses : ℕ
  pub other : Core
  pub solves : Solves free locals p q hole hypotheses other
  pub absent : IsFalse (mentions hole other)
  pub first : first_below (locals - hypotheses) 0 other ≡ Some variable
  pub is_local : variable < locals - hypotheses

-- a free hole stands at the head of one of the two, and neither is a free hole applied to just its own hypotheses
pub record IsHigherOrder (free : FreeHoles) (locals : ℕ) (p q : Core) : Type 0 where
  pub head : IsTrue (has_free_head free p) ⊎ IsTrue (has_free_head free q)
  pub left : (hole hypotheses : ℕ) → IsApplied free locals p hole hypotheses → ⊥
  pub right : (hole hypotheses : ℕ) → IsApplied free locals q hole hypotheses → ⊥

-- no free hole stands at the head of either, and they haven't one form with parts
pub record Clashes (free : FreeHoles) (p q : Core) : Type 0 where
  pub left : IsFalse (has_free_head free p)
  pub right : IsFalse (has_free_head free q)
  pub forms : (s : Shape) → shape_of p ≡ Some s → shape_of q ≡ Some s → ⊥

-- the hole and the body that the corresponding pair determines, where the terms stand under so many locals
pub record IsCandidate (b : CoreBodies) (free : FreeHoles) (locals : ℕ) (t u : Core) (hole : ℕ) (body : Core) : Type 0 where
  pub deeper : List Binder
  pub left : Core
  pub right : Core
  pub pair : Corresponds b free t u deeper left right
  pub solved : IsSolved free (locals + length deeper) left right hole body

-- within so many steps the normalisation sequence reaches a term with a subtree of this size and depth, which passes a limit
abbrev pub ReachesTooLarge : CoreBodies → ℕ → ℕ → ℕ → Core → Type 0
ReachesTooLarge b limit nodes levels t = (n : ℕ) × (u : Core) × (n ≤ limit) × (after (normal_step b) n t ≡ Some u) × IsTooLarge u nodes levels

-- the corresponding pair, under these binders, and what holds of it
abbrev pub AtPair : CoreBodies → FreeHoles → Core → Core → List Binder → (Core → Core → Type 0) → Type 0
AtPair b free t u deeper Holds = (p q : Core) × Corresponds b free t u deeper p q × Holds p q

-- the refusal has its cause
abbrev pub IsRefusedBy : CoreBodies → FreeHoles → ℕ → Core → Core → ℕ → MatchFault → Type 0
IsRefusedBy b free locals t u limit (Clash left right deeper) = Corresponds b free t u deeper left right × Clashes free left right
IsRefusedBy b free locals t u limit (Occurs hole) =
    (deeper : List Binder) × AtPair b free t u deeper (λ p q. OccursIn free (locals + length deeper) p q hole)
IsRefusedBy b free locals t u limit (Scope hole variable deeper) =
    AtPair b free t u deeper (λ p q. Escapes free (locals + length deeper) p q hole variable)
IsRefusedBy b free locals t u limit (HigherOrder left right deeper) =
    Corresponds b free t u deeper left right × IsHigherOrder free (locals + length deeper) left right
IsRefusedBy b free locals t u limit Budget = CostMoreThan b t u limit
IsRefusedBy b free locals t u limit (TooLarge nodes levels) = ReachesTooLarge b limit nodes levels t ⊎ ReachesTooLarge b limit nodes levels u
IsRefusedBy b free locals t u limit Memory = Unit {0}
