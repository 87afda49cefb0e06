-- A walk through the head forms of two terms and their parts, and where it stops. A tool of the proofs.
use Rattle.std.specs.Prelude.{◌≡◌, ℕ, suc, ◌+◌, ◌≤◌, ◌<◌, true, List, ◌++◌, [], length, drop, slice_get, Option, Some, None, Result, Ok, Err, IsFalse}
use Rattle.lego_term.specs.declared.binder.Binder.{Binder}
use Rattle.lego_term.specs.Trees.{Core, loose, depth}
use Rattle.lego_term.specs.Parts.{Shape, shape_of, Branch, parts_of}
use Rattle.lego_term.specs.Sequences.{head_step, normal_step, NormalForm}
use Rattle.lego_laws.specs.Parallel.{CoreBodies}
use Rattle.lego_laws.specs.Counting.{HasSteps, PartsHaveSteps}
use Rattle.lego_reduce.specs.declared.fault.ReduceFault.{ReduceFault}
use Rattle.lego_reduce.specs.declared.head_form.Reduced.{Reduced}
use Rattle.lego_reduce.specs.Reduction.{Reduces}
use Rattle.lego_match.specs.Agreement.{Agree, AgreeIn}
use Rattle.lego_match.specs.Holes.{FreeHoles, has_free_head}
use Rattle.lego_match.specs.Pairs.{Corresponds, inside}
use Rattle.lego_match.specs.private.Codes.{agree_at_root}
use Rattle.lego_match.specs.private.Faults.{stop_of}
use Rattle.lego_match.specs.declared.walk.Position.{Position}
use Rattle.lego_match.specs.declared.stop.Stop.{Stop}
use Rattle.lego_match.specs.declared.stop.Stop.TheVariants.{Apart, Budget, Whole, Memory}

-- the term has no step
abbrev pub IsNormal : CoreBodies → Core → Type 0
IsNormal b t = normal_step b t ≡ None

-- all parts of two head forms agree
abbrev pub AllAgree : CoreBodies → Core → Core → Type 0
AllAgree b h k = (j : ℕ) (l r : Branch) → slice_get (parts_of h) j ≡ Some l → slice_get (parts_of k) j ≡ Some r → AgreeIn b l.term r.term

-- the walk passed two terms that agree; it made so many steps, and the binders are as they were
pub record Passed (Agreed : Type 0) (Left Right : ℕ → Type 0) (limit : ℕ) (old new : List Binder) (steps : ℕ) : Type 0 where
  pub agreed : Agreed
  pub kept : new ≡ old
  pub left : ℕ
  pub right : ℕ
  pub left_has : Left left
  pub right_has : Right right
  pub sum : left + right ≡ steps
  pub within : steps ≤ limit

-- both sides together have more steps than the limit
pub record TooMany (Left Right : ℕ → Type 0) (limit : ℕ) : Type 0 where
  pub left : ℕ
  pub right : ℕ
  pub left_has : Left left
  pub right_has : Right right
  pub over : limit < left + right

-- no variable of the term, however deep it stands, is above those that a term may be made with
abbrev pub HasLowVariables : Core → Type 0
HasLowVariables t = loose t + depth t ≤ 65536

-- no free hole stands at the head of either, and they agree but for their parts
abbrev pub GoesOn : FreeHoles → Core → Core → Type 0
GoesOn free h k = IsFalse (has_free_head free h) × IsFalse (has_free_head free k) × (agree_at_root h k ≡ true)

-- a free hole stands at the head of one of the two, or they haven't one form with parts
abbrev pub EndsHere : FreeHoles → Core → Core → Type 0
EndsHere free p q = IsFalse (has_free_head free p) → IsFalse (has_free_head free q) → (s : Shape) → shape_of p ≡ Some s → shape_of q ≡ Some s → ⊥

-- the walk stopped at these two terms, under these further binders
pub record StopsUnder (free : FreeHoles) (AtPair : List Binder → Type 0) (room : ℕ) (p q : Core) (old new : List Binder) : Type 0 where
  pub deeper : List Binder
  pub added : new ≡ old ++ deeper
  pub short : length deeper ≤ room
  pub pair : AtPair deeper
  pub ends : EndsHere free p q
  pub left_low : HasLowVariables p
  pub right_low : HasLowVariables q

-- why a walk stopped; one through normal forms needs no reduction
abbrev pub StopsBy : FreeHoles → (pair : List Binder → Core → Core → Type 0) → (left right : ℕ → Type 0) → Position → (old new : List Binder) → Stop → Type 0
StopsBy free pair left right at old new (Apart p q) = StopsUnder free (λ xs. pair xs p q) at.room p q old new
StopsBy free pair left right at old new Budget = TooMany left right at.limit
StopsBy free pair left right at old new Whole = at.are_normal ≡ true → ⊥
StopsBy free pair left right at old new Memory = Unit {0}

-- the walk through two terms
abbrev pub Walks : CoreBodies → FreeHoles → Core → Core → Position → (old new : List Binder) → Result ℕ Stop → Type 0
Walks b free t u at old new (Ok steps) = Passed (AgreeIn b t u) (HasSteps b t) (HasSteps b u) at.limit old new steps
Walks b free t u at old new (Err why) = StopsBy free (Corresponds b free t u) (HasSteps b t) (HasSteps b u) at old new why

-- the corresponding pair of two parts, under the binder of the left part and then these
pub record PairInside (b : CoreBodies) (free : FreeHoles) (under : Option Binder) (t u : Core) (xs : List Binder) (p q : Core) : Type 0 where
  pub further : List Binder
  pub split : xs ≡ inside under further
  pub pair : Corresponds b free t u further p q

-- the walk through two parts, which has a room of one less
abbrev pub PartWalks : CoreBodies → FreeHoles → Option Binder → Core → Core → Position → (old new : List Binder) → Result ℕ Stop → Type 0
PartWalks b free under t u at old new (Ok steps) = Passed (AgreeIn b t u) (HasSteps b t) (HasSteps b u) at.limit old new steps
PartWalks b free under t u at old new (Err why) =
    StopsBy free (PairInside b free under t u) (HasSteps b t) (HasSteps b u) (record at { room = suc at.room }) old new why

-- the walk through the parts of two head forms, from part i on
abbrev pub PartsWalk : CoreBodies → FreeHoles → Core → Core → ℕ → Position → (old new : List Binder) → Result ℕ Stop → Type 0
PartsWalk b free h k i at old new (Ok steps) =
    Passed (AllAgree b h k) (PartsHaveSteps b (drop i (parts_of h))) (PartsHaveSteps b (drop i (parts_of k))) at.limit old new steps
PartsWalk b free h k i at old new (Err why) =
    StopsBy free (Corresponds b free h k) (PartsHaveSteps b (drop i (parts_of h))) (PartsHaveSteps b (drop i (parts_of k))) at old new why

-- the head form, within the limit, or why the reduction stopped the walk
abbrev pub Heads : CoreBodies → Core → ℕ → Result Reduced Stop → Type 0
Heads b t limit (Ok reduced) = Reduces (head_step b) t limit (Ok reduced)
Heads b t limit (Err why) = (fault : ReduceFault) × (why ≡ stop_of fault) × Reduces (head_step b) t limit (Err fault)

-- whether two normal forms agree
abbrev pub Decides : Core → Core → ℕ → Result ℕ Stop → Type 0
Decides p q steps (Ok made) = Agree p q × (made ≡ steps)
Decides p q steps (Err (Apart left right)) = (Agree p q → ⊥) × (left ≡ p) × (right ≡ q)
Decides p q steps (Err Memory) = Unit {0}
Decides p q steps (Err _) = ⊥

-- the normal forms of two head forms don't agree
pub record EndsApart (b : CoreBodies) (h k p q : Core) : Type 0 where
  pub left : NormalForm b h p
  pub right : NormalForm b k q
  pub apart : Agree p q → ⊥
  pub left_low : HasLowVariables p
  pub right_low : HasLowVariables q

-- whether the normal forms of two head forms agree
abbrev pub Settles : CoreBodies → Core → Core → Position → Result ℕ Stop → Type 0
Settles b h k at (Ok steps) = Passed (AgreeIn b h k) (HasSteps b h) (HasSteps b k) at.limit [] [] steps
Settles b h k at (Err (Apart p q)) = EndsApart b h k p q
Settles b h k at (Err Budget) = TooMany (HasSteps b h) (HasSteps b k) at.limit
Settles b h k at (Err Whole) = at.are_normal ≡ true → ⊥
Settles b h k at (Err Memory) = Unit {0}
