-- What is known while a search goes on.
use Rattle.std.specs.Prelude.{◌≡◌, ◌==◌, nat_eq, ℕ, ◌+◌, ◌<◌, ◌≤◌, ◌⊎◌, Bool, true, false, List, Option, Some, None, Contains, length, if◌then◌else◌}
use Rattle.std.specs.HashMap.{get}
use Rattle.lego_level.specs.declared.constraint.Constraint.{Constraint}
use Rattle.lego_level.specs.declared.direction.Direction.{Direction}
use Rattle.lego_level.specs.declared.direction.Direction.TheVariants.{Up, Down}
use Rattle.lego_level.specs.declared.draft.Reached.{Reached}
use Rattle.lego_level.specs.declared.draft.Draft.{Draft}
use Rattle.lego_level.specs.declared.search.Task.{Task}
use Rattle.lego_level.specs.declared.search.Search.{Search}
use Rattle.lego_level.specs.Graphs.{implied}
use Rattle.lego_level.specs.private.Incidence.{near_of, far_of}
use Rattle.lego_level.specs.private.Potentials.{low_of, high_of}

abbrev pub blank : Constraint
blank = record { low = record { base = None; plus = 0 }; high = record { base = None; plus = 0 }; place = None }

-- what stands for a node that was not reached
abbrev pub unreached : Reached
unreached = record { gain = 0; value = 0; rank = 0; cause = blank; done = false }

unfoldable pub found_at : Draft → Option ℕ → Option Reached
found_at d None = d.zero
found_at d (Some u) = get nat_eq d.variables u

abbrev pub reached_or : Option Reached → Reached
reached_or None = unreached
reached_or (Some r) = r

abbrev pub reached_at : Draft → Option ℕ → Reached
reached_at d u = reached_or (found_at d u)

-- each reached node was touched
abbrev pub IsTouched : Draft → Type 0
IsTouched d = (u : Option ℕ) (r : Reached) → found_at d u ≡ Some r → Contains d.touched.items u

-- a value, moved by so much
abbrev pub IsMoved : Direction → ℕ → ℕ → ℕ → Type 0
IsMoved Up old gain new = new ≡ old + gain
IsMoved Down old gain new = new + gain ≡ old

-- the values once what was reached has moved
abbrev pub moved_to : (Option ℕ → ℕ) → (Option ℕ → Reached) → Option ℕ → ℕ
moved_to v d u = if (d u).gain == 0 then v u else (d u).value

-- an implied constraint that a search looks at
abbrev pub IsScanned : Direction → ℕ → ℕ → Type 0
IsScanned Up n u = u < n
IsScanned Down n u = Unit {0}

abbrev pub IsEdge : Task → List Constraint → Constraint → Type 0
IsEdge t cs c = Contains cs c ⊎ ((u : ℕ) × (c ≡ implied u) × IsScanned t.direction t.count u)

abbrev pub IsUpperZero : Direction → Option ℕ → Type 0
IsUpperZero Up u = u ≡ None
IsUpperZero Down u = ⊥

-- a node that is not to be reached
abbrev pub IsStop : Task → Option ℕ → Type 0
IsStop t u = (u ≡ near_of t.direction t.added) ⊎ IsUpperZero t.direction u

-- the constraint does not move its far node further
abbrev pub IsRelaxed : Task → (Option ℕ → ℕ) → (Option ℕ → Reached) → Constraint → Type 0
IsRelaxed t v d c = (d (near_of t.direction c)).gain + low_of v c ≤ (d (far_of t.direction c)).gain + high_of v c

-- the node where a search starts
pub record IsFirst (t : Task) (r : Reached) : Type 0 where
  pub gain : r.gain ≡ t.gain
  pub rank : 0 < r.rank

-- a node that is forced by a tight constraint from one that was looked at
pub record IsLinked (t : Task) (v : Option ℕ → ℕ) (cs : List Constraint) (d : Option ℕ → Reached) (u : Option ℕ) (r : Reached) : Type 0 where
  pub edge : IsEdge t cs r.cause
  pub far : far_of t.direction r.cause ≡ u
  pub tight : r.gain + high_of v r.cause ≡ (d (near_of t.direction r.cause)).gain + low_of v r.cause
  pub rank : (d (near_of t.direction r.cause)).rank < r.rank
  pub near : (d (near_of t.direction r.cause)).done ≡ true

pub record IsReached (t : Task) (v : Option ℕ → ℕ) (cs : List Constraint) (d : Option ℕ → Reached) (q : List (ℕ × Option ℕ)) (top : ℕ) (u : Option ℕ) (r : Reached) : Type 0 where
  pub source : (u ≡ far_of t.direction t.added) ⊎ IsLinked t v cs d u r
  pub moved : IsMoved t.direction (v u) r.gain r.value
  pub waits : r.done ≡ false → Contains q (r.gain, u)
  pub passed : r.done ≡ true → top ≤ r.gain
  pub most : r.gain ≤ t.gain

pub record IsQueued (d : Option ℕ → Reached) (top g : ℕ) (u : Option ℕ) : Type 0 where
  pub positive : 0 < g
  pub below : g ≤ top
  pub within : g ≤ (d u).gain

pub record Grown (t : Task) (v : Option ℕ → ℕ) (cs : List Constraint) (d : Option ℕ → Reached) (q : List (ℕ × Option ℕ)) (top : ℕ) : Type 0 where
  pub reached : (u : Option ℕ) → 0 < (d u).gain → IsReached t v cs d q top u (d u)
  pub done : (u : Option ℕ) → (d u).done ≡ true → 0 < (d u).gain
  pub stops : (u : Option ℕ) → IsStop t u → (u ≡ far_of t.direction t.added → ⊥) → d u ≡ unreached
  pub queue : (g : ℕ) (u : Option ℕ) → Contains q (g, u) → IsQueued d top g u
  pub first : IsFirst t (d (far_of t.direction t.added))

-- of the nodes that were looked at, each constraint but those to do is relaxed
abbrev pub AreRelaxed : Task → (Option ℕ → ℕ) → List Constraint → (Option ℕ → Reached) → (Constraint → Type 0) → Type 0
AreRelaxed t v cs d todo = (c : Constraint) → IsEdge t cs c → (d (near_of t.direction c)).done ≡ true → todo c ⊎ IsRelaxed t v d c

-- the constraints of a node, and the implied ones alone
abbrev pub IsAt : Task → Option ℕ → Constraint → Type 0
IsAt t node c = near_of t.direction c ≡ node

abbrev pub IsImpliedAt : Task → Option ℕ → Constraint → Type 0
IsImpliedAt t node c = (near_of t.direction c ≡ node) × ((u : ℕ) × (c ≡ implied u) × IsScanned t.direction t.count u)

-- while the constraints of a node are looked at
pub record Scans (t : Task) (v : Option ℕ → ℕ) (cs : List Constraint) (s : Search) (node : Option ℕ) (from : Reached) (todo : Constraint → Type 0) : Type 0 where
  pub at : reached_at s.draft node ≡ from
  pub done : from.done ≡ true
  pub touched : IsTouched s.draft
  pub grown : Grown t v cs (reached_at s.draft) s.queue from.gain
  pub edges : AreRelaxed t v cs (reached_at s.draft) todo

-- between the nodes
pub record Searches (t : Task) (v : Option ℕ → ℕ) (cs : List Constraint) (s : Search) : Type 0 where
  pub top : ℕ
  pub touched : IsTouched s.draft
  pub grown : Grown t v cs (reached_at s.draft) s.queue top
  pub edges : AreRelaxed t v cs (reached_at s.draft) (λ c. ⊥)

-- a constraint that would move a node at which the search stops
pub record Stops (t : Task) (v : Option ℕ → ℕ) (cs : List Constraint) (s : Search) (c : Constraint) : Type 0 where
  pub top : ℕ
  pub grown : Grown t v cs (reached_at s.draft) s.queue top
  pub edge : IsEdge t cs c
  pub near : (reached_at s.draft (near_of t.direction c)).done ≡ true
  pub stop : IsStop t (far_of t.direction c)
  pub over : (reached_at s.draft (far_of t.direction c)).gain + high_of v c < (reached_at s.draft (near_of t.direction c)).gain + low_of v c

-- a node is reached anew, and waits
pub record IsPut (t : Task) (v : Option ℕ → ℕ) (node : Option ℕ) (cause : Constraint) (gain rank : ℕ) (old new : Search) : Type 0 where
  pub value : ℕ
  pub moved : IsMoved t.direction (v node) gain value
  pub at : found_at new.draft node ≡ Some (record { gain = gain; value = value; rank = rank; cause = cause; done = false })
  pub other : (u : Option ℕ) → (u ≡ node → ⊥) → found_at new.draft u ≡ found_at old.draft u
  pub there : Contains new.queue (gain, node)
  pub keeps : (x : ℕ × Option ℕ) → Contains old.queue x → Contains new.queue x
  pub only : (x : ℕ × Option ℕ) → Contains new.queue x → (x ≡ (gain, node)) ⊎ Contains old.queue x
  pub waiting : length new.queue ≡ length old.queue + 1
  pub touched : IsTouched old.draft → IsTouched new.draft

-- what a look at a constraint does
pub record IsStopped (t : Task) (v : Option ℕ → ℕ) (c : Constraint) (from : Reached) (old new : Search) : Type 0 where
  pub stop : IsStop t (far_of t.direction c)
  pub over : (reached_at old.draft (far_of t.direction c)).gain + high_of v c < from.gain + low_of v c
  pub same : new ≡ old

pub record IsPassed (t : Task) (v : Option ℕ → ℕ) (c : Constraint) (from : Reached) (old new : Search) : Type 0 where
  pub fine : from.gain + low_of v c ≤ (reached_at old.draft (far_of t.direction c)).gain + high_of v c
  pub same : new ≡ old

pub record IsPushed (t : Task) (v : Option ℕ → ℕ) (c : Constraint) (from : Reached) (old new : Search) : Type 0 where
  pub gain : ℕ
  pub gain_is : gain + high_of v c ≡ from.gain + low_of v c
  pub more : (reached_at old.draft (far_of t.direction c)).gain < gain
  pub free : IsStop t (far_of t.direction c) → ⊥
  pub put : IsPut t v (far_of t.direction c) c gain (from.rank + 1) old new

abbrev pub Visited : Task → (Option ℕ → ℕ) → Constraint → Reached → Search → Search → Bool → Type 0
Visited t v c from old new true = IsStopped t v c from old new
Visited t v c from old new false = IsPassed t v c from old new ⊎ IsPushed t v c from old new

-- the same nodes were looked at
abbrev pub SameDone : Search → Search → Type 0
SameDone old new = (u : Option ℕ) → (reached_at new.draft u).done ≡ (reached_at old.draft u).done

-- the closing constraint, the causes from its near node on, and the added constraint lead round
pub record Turns (t : Task) (v : Option ℕ → ℕ) (cs : List Constraint) (d : Option ℕ → Reached) (closing : Constraint) : Type 0 where
  pub edge : IsEdge t cs closing
  pub far : far_of t.direction closing ≡ near_of t.direction t.added
  pub end : d (near_of t.direction t.added) ≡ unreached
  pub near : 0 < (d (near_of t.direction closing)).gain
  pub over : high_of v closing < (d (near_of t.direction closing)).gain + low_of v closing
  pub more : 0 < t.gain
  pub lack : t.gain + high_of v t.added ≡ low_of v t.added
  pub first : IsFirst t (d (far_of t.direction t.added))
  pub linked : (u : Option ℕ) → 0 < (d u).gain → (u ≡ far_of t.direction t.added) ⊎ IsLinked t v cs d u (d u)
  pub done : (u : Option ℕ) → (d u).done ≡ true → 0 < (d u).gain
