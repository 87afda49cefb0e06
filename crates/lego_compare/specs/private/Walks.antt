-- A comparison's walk through head forms and their parts, and where it stops. A tool of the proofs.
use Rattle.std.specs.Prelude.{◌≡◌, ℕ, suc, ◌+◌, ◌≤◌, ◌<◌, List, [], ◌∷◌, ◌++◌, drop, slice_get, Some, Result, Ok, Err, All}
use Rattle.lego_base.specs.declared.place.Place.{Place}
use Rattle.lego_term.specs.Levels.{LevelPair}
use Rattle.lego_term.specs.Trees.{Core}
use Rattle.lego_term.specs.Parts.{Shape, shape_of, Branch, parts_of}
use Rattle.lego_term.specs.Sequences.{head_step, HeadForm}
use Rattle.lego_laws.specs.Parallel.{CoreBodies}
use Rattle.lego_compare.specs.Paths.{Leads, FormLeads, Large}
use Rattle.lego_laws.specs.Counting.{Walked, PartsWalked}
use Rattle.lego_laws.specs.Facing.{Order, order_at, crossed}
use Rattle.lego_laws.specs.Comparison.{Compared, FormsCompared, AreInOrder}
use Rattle.lego_level.specs.declared.constraint.Constraint.{Constraint}
use Rattle.lego_level.specs.Graphs.{pairs_of}
use Rattle.lego_compare.specs.declared.relation.Relation.{Relation}
use Rattle.lego_compare.specs.declared.stop.Stop.{Stop}
use Rattle.lego_compare.specs.declared.stop.Stop.TheVariants as stop
use Rattle.lego_compare.specs.declared.stop.Side.{Side}
use Rattle.lego_compare.specs.declared.stop.Side.TheVariants.{Left, Right}
use Rattle.lego_reduce.specs.declared.fault.ReduceFault.{ReduceFault}
use Rattle.lego_reduce.specs.declared.head_form.Reduced.{Reduced}
use Rattle.lego_reduce.specs.Reduction.{Reduces}
use Rattle.lego_compare.specs.private.Codes.{order_of, relation_at, stop_on}

mutual
  -- a path of parts, from the terms on, to head forms whose roots are out of order, under so many binders
  pub data Differ (b : CoreBodies) : Order → Core → Core → ℕ → Core → Core → Type 0 where
    d_heads : {o : Order} {t u h k left right : Core} {n : ℕ}
        → HeadForm b t h → HeadForm b u k → FormsDiffer b o h k n left right → Differ b o t u n left right

  -- the same from head forms on
  pub data FormsDiffer (b : CoreBodies) : Order → Core → Core → ℕ → Core → Core → Type 0 where
    d_here : {o : Order} {h k : Core} → (AreInOrder o h k → ⊥) → FormsDiffer b o h k 0 h k
    d_part : {o : Order} {h k left right : Core} {s : Shape} {p q : Branch} {n : ℕ} (i : ℕ)
        → shape_of h ≡ Some s → shape_of k ≡ Some s → slice_get (parts_of h) i ≡ Some p → slice_get (parts_of k) i ≡ Some q
        → Differ b (order_at o s i) p.term q.term n left right → FormsDiffer b o h k (crossed n p) left right

-- the parts from number i on are compared in pairs
pub data PartsCompared (b : CoreBodies) (r : Relation) (t : Core) : ℕ → List Branch → List Branch → List LevelPair → Type 0 where
  c_none : {i : ℕ} → PartsCompared b r t i [] [] []
  c_next : {i : ℕ} {p q : Branch} {ps qs : List Branch} {k l : List LevelPair}
      → Compared b (order_of (relation_at r t i)) p.term q.term k → PartsCompared b r t (suc i) ps qs l
      → PartsCompared b r t i (p ∷ ps) (q ∷ qs) (k ++ l)

-- a walk of so many steps together, within the limit, which gathered these constraints
pub record Passed (Walk : ℕ → ℕ → Type 0) (Compares : List LevelPair → Type 0) (limit : ℕ) (place : Place) (t u : Core) (b : CoreBodies) (old new : List Constraint) (steps : ℕ) : Type 0 where
  pub more : List Constraint
  pub added : new ≡ old ++ more
  pub compared : Compares (pairs_of more)
  pub left : ℕ
  pub right : ℕ
  pub walked : Walk left right
  pub sum : left + right ≡ steps
  pub within : steps ≤ limit
  pub placed : All (λ c. c.place ≡ Some place) more

-- the walk's steps are more than the limit
pub record TooMany (Walk : ℕ → ℕ → Type 0) (limit : ℕ) : Type 0 where
  pub left : ℕ
  pub right : ℕ
  pub walked : Walk left right
  pub over : limit < left + right

pub record Apart (Path : ℕ → Core → Core → Type 0) (before deeper : ℕ) (left right : Core) : Type 0 where
  pub within : ℕ
  pub sum : deeper ≡ before + within
  pub path : Path within left right

-- why a walk stopped
abbrev pub StopsBy : (differ : ℕ → Core → Core → Type 0) → (walked : ℕ → ℕ → Type 0) → (left right : ℕ → Core → Type 0) → (limit room crossed : ℕ) → Stop → Type 0
StopsBy differ walked left right limit room crossed (stop.Differ h k deeper) = Apart differ crossed deeper h k
StopsBy differ walked left right limit room crossed stop.Budget = TooMany walked limit
StopsBy differ walked left right limit room crossed (stop.TooLarge Left nodes levels) = Large left room nodes levels
StopsBy differ walked left right limit room crossed (stop.TooLarge Right nodes levels) = Large right room nodes levels
StopsBy differ walked left right limit room crossed stop.Memory = Unit {0}

-- the head form, within the limit, or why the reduction stopped the walk
abbrev pub Heads : CoreBodies → Side → Core → ℕ → Result Reduced Stop → Type 0
Heads b side t limit (Ok reduced) = Reduces (head_step b) t limit (Ok reduced)
Heads b side t limit (Err why) = (fault : ReduceFault) × (why ≡ stop_on side fault) × Reduces (head_step b) t limit (Err fault)

-- the walk through two terms
abbrev pub Walks : CoreBodies → Relation → Core → Core → (limit room crossed : ℕ) → Place → (old new : List Constraint) → Result ℕ Stop → Type 0
Walks b r t u limit room crossed place old new (Ok steps) =
    Passed (Walked b t u) (Compared b (order_of r) t u) limit place t u b old new steps
Walks b r t u limit room crossed place old new (Err why) =
    StopsBy (Differ b (order_of r) t u) (Walked b t u) (Leads b t) (Leads b u) limit room crossed why

-- the walk through two head forms
abbrev pub FormsWalk : CoreBodies → Relation → Core → Core → (limit room crossed : ℕ) → Place → (old new : List Constraint) → Result ℕ Stop → Type 0
FormsWalk b r h k limit room crossed place old new (Ok steps) =
    Passed (PartsWalked b (parts_of h) (parts_of k)) (FormsCompared b (order_of r) h k) limit place h k b old new steps
FormsWalk b r h k limit room crossed place old new (Err why) =
    StopsBy (FormsDiffer b (order_of r) h k) (PartsWalked b (parts_of h) (parts_of k)) (FormLeads b h) (FormLeads b k) limit room crossed why

-- the walk through the parts of two head forms of one shape, from part i on
abbrev pub PartsWalk : CoreBodies → Relation → Core → Core → (i limit room crossed : ℕ) → Place → (old new : List Constraint) → Result ℕ Stop → Type 0
PartsWalk b r h k i limit room crossed place old new (Ok steps) =
    Passed (PartsWalked b (drop i (parts_of h)) (drop i (parts_of k))) (PartsCompared b r h i (drop i (parts_of h)) (drop i (parts_of k))) limit place h k b old new steps
PartsWalk b r h k i limit room crossed place old new (Err why) =
    StopsBy (FormsDiffer b (order_of r) h k) (PartsWalked b (drop i (parts_of h)) (drop i (parts_of k))) (FormLeads b h) (FormLeads b k) limit room crossed why

-- the stop at two head forms
abbrev pub IsApart : Core → Core → ℕ → Stop → Type 0
IsApart h k deeper (stop.Differ left right binders) = (left ≡ h) × (right ≡ k) × (binders ≡ deeper)
IsApart h k deeper stop.Memory = Unit {0}
IsApart h k deeper _ = ⊥
