-- What a comparison of two terms answers.
use Rattle.std.specs.Prelude.{◌≡◌, ℕ, ◌+◌, ◌<◌, ◌≤◌, ◌↔◌, ◌⊎◌, List, Some, All, Contains}
use Rattle.lego_base.specs.declared.place.Place.{Place}
use Rattle.lego_term.specs.declared.level.Level.{Level}
use Rattle.lego_term.specs.Levels.{Assignment, SatisfiesAll}
use Rattle.lego_term.specs.Trees.{Core, Equal, levels_of, at}
use Rattle.lego_term.specs.Parts.{IsTooLargeOnTheWay}
use Rattle.lego_term.specs.Sequences.{normal_step, after, MoreThan, CostMoreThan}
use Rattle.lego_laws.specs.Parallel.{CoreBodies, valued, bodies_valued, bodies_at}
use Rattle.lego_laws.specs.Counting.{Walked}
use Rattle.lego_laws.specs.Facing.{Order, Faces, order_under, IsAsked}
use Rattle.lego_laws.specs.Comparison.{Related, Compared, AreInOrder}
use Rattle.lego_level.specs.declared.constraint.Constraint.{Constraint}
use Rattle.lego_level.specs.Graphs.{pairs_of}
use Rattle.lego_compare.specs.Paths.{IsLargeOnAPath}
use Rattle.lego_compare.specs.declared.fault.CompareFault.{CompareFault}
use Rattle.lego_compare.specs.declared.fault.CompareFault.TheVariants.{Differ, Budget, TooLarge, Memory}

-- the terms are related where each level, fixed ones too and in the bodies, has this value
abbrev pub RelatedAt : (Level → ℕ) → Order → CoreBodies → Core → Core → Type 0
RelatedAt value o b t u = Related o (bodies_valued value b) (valued value t) (valued value u)

-- the level stands in one of the terms, or in a body
pub data IsLevelIn (b : CoreBodies) (t u : Core) (l : Level) : Type 0 where
  of_left : Contains (levels_of t) l → IsLevelIn b t u l
  of_right : Contains (levels_of u) l → IsLevelIn b t u l
  of_body : {k : ℕ} {body : Core} → b k ≡ Some body → Contains (levels_of body) l → IsLevelIn b t u l

-- The constraints are those of the walk through both terms, in its order, by which each pair of facing universes asks once and
-- equal terms ask nothing. The assignments that satisfy them are exactly those that make the terms related, and with every level
-- put to 0 the terms are related. Each constraint is asked by two universes that face one another, has the place of the comparison,
-- and has levels of the terms and the bodies alone.
pub record IsDecidedBy (o : Order) (b : CoreBodies) (t u : Core) (place : Place) (found : List Constraint) : Type 0 where
  pub walk : Compared b o t u (pairs_of found)
  pub exact : (v : Assignment) → SatisfiesAll v (pairs_of found) ↔ Related o (bodies_at v b) (at v t) (at v u)
  pub zero : RelatedAt (λ l. 0) o b t u
  pub asked : All (λ c. IsAsked o b t u c.low c.high) found
  pub placed : All (λ c. c.place ≡ Some place) found
  pub levels : All (λ c. IsLevelIn b t u c.low × IsLevelIn b t u c.high) found

-- The two are head forms that one path of parts reaches from both sides, under `deeper` more binders. Their roots show that the
-- terms are related at no values of the levels, 0 for all of them included.
pub record DifferAt (o : Order) (b : CoreBodies) (t u left right : Core) (deeper : ℕ) : Type 0 where
  pub on_path : Order
  pub faces : Faces b t u on_path deeper left right
  pub roots : AreInOrder (order_under o on_path) left right → ⊥
  pub never : (value : Level → ℕ) → RelatedAt value o b t u → ⊥

-- within so many steps the normalisation sequence reaches a term over a limit of terms
pub record ReachesTooLarge (b : CoreBodies) (limit nodes levels : ℕ) (t : Core) : Type 0 where
  pub steps : ℕ
  pub term : Core
  pub within : steps ≤ limit
  pub reaches : after (normal_step b) steps t ≡ Some term
  pub large : IsTooLargeOnTheWay term nodes levels

-- a path of the term leads to one too large, and the normalisation sequence has more steps than the limit
pub record HasLongSequence (b : CoreBodies) (t : Core) (limit : ℕ) : Type 0 where
  pub nodes : ℕ
  pub levels : ℕ
  pub large : IsLargeOnAPath b t nodes levels
  pub long : MoreThan (normal_step b) t limit

-- The walk through both terms, in which equal terms ask no step, makes more steps than the limit; or a term too large stops
-- the walk, and its side's sequence doesn't come there within the limit.
pub data IsOverBudget (b : CoreBodies) (t u : Core) (limit : ℕ) : Type 0 where
  by_walk : {i j : ℕ} → Walked b t u i j → limit < i + j → IsOverBudget b t u limit
  by_left : HasLongSequence b t limit → IsOverBudget b t u limit
  by_right : HasLongSequence b u limit → IsOverBudget b t u limit

-- the refusal has its cause
abbrev pub IsRefusedBy : Order → CoreBodies → Core → Core → ℕ → CompareFault → Type 0
IsRefusedBy o b t u limit (Differ left right deeper) = DifferAt o b t u left right deeper
IsRefusedBy o b t u limit Budget = IsOverBudget b t u limit × CostMoreThan b t u limit × (Equal t u → ⊥)
IsRefusedBy o b t u limit (TooLarge nodes levels) = (ReachesTooLarge b limit nodes levels t ⊎ ReachesTooLarge b limit nodes levels u) × (Equal t u → ⊥)
IsRefusedBy o b t u limit Memory = Unit {0}
