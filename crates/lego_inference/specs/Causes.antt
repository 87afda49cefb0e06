-- The causes of refusals, one for each kind.
use Rattle.std.specs.Prelude.{◌≡◌, ℕ, ◌<◌, ◌≤◌, ◌⊎◌, Option, Some, None}
use Rattle.lego_term.specs.Levels.{Assignment, SatisfiesAll}
use Rattle.lego_term.specs.declared.level.Level.{Level}
use Rattle.lego_term.specs.Trees.{Core, Univ, Equal}
use Rattle.lego_term.specs.Weight.{height, weight}
use Rattle.lego_term.specs.Parts.{IsTooLarge, IsTooLargeOnTheWay}
use Rattle.lego_term.specs.Sequences.{HeadForm, head_step, normal_step, after, MoreThan, CostMoreThan}
use Rattle.lego_laws.specs.Entries.{core_bodies, kept}
use Rattle.lego_laws.specs.Places.{Want, Nothing, Stated, Site, Task, OfWrittenType, Fulfils, WantedHead, WantedPair, IsFormer, RuleTypeAt, BelowAtZero, ArePartsShaped, Comes, IsReached}
use Rattle.lego_laws.specs.Principal.{AreSmall}
use Rattle.lego_laws.specs.Shape.{IsTyped}
use Rattle.lego_laws.specs.Tasks.{IsTypedWithin}

-- no assignment that satisfies the constraints kept with the entries gives the core its typing
abbrev pub HasNoTyping : Task → Type 0
HasNoTyping t = (v : Assignment) → SatisfiesAll v (kept t.entries) → IsTyped t v → ⊥

-- no such assignment with values up to a limit gives it a typing whose universes are up to the limit
abbrev pub HasNoTypingWithin : ℕ → Task → Type 0
HasNoTypingWithin limit t = (v : Assignment) → SatisfiesAll v (kept t.entries) → AreSmall limit v → IsTypedWithin limit t v → ⊥

-- a type, a function or a pair is wanted of the term; `got` is its rule type, and its head form is not of that form
pub record WrongHead (t : Task) (s : Site) (term : Core) (wanted : Want) (got : Core) : Type 0 where
  pub place : WantedHead t s term wanted got
  pub head : Core
  pub is_head : HeadForm (core_bodies t.entries) got head
  pub unfit : Fulfils wanted head → ⊥
  pub no_typing : HasNoTyping t

-- the type `want` is stated of the term, `have` is its rule type, and is not below it even with every level put to 0
pub record MismatchCause (t : Task) (s : Site) (term have want : Core) : Type 0 where
  pub place : WantedPair t s term have want
  pub apart : BelowAtZero t.entries have want → ⊥
  pub no_typing : HasNoTyping t

-- the sides of a wanted pair differ and together cost more than the limit; or the head sequence of a wanted head is longer
pub data BudgetCause (limit : ℕ) (t : Task) (s : Site) (term : Core) : Want → Core → Option Core → Type 0 where
  pair : {have stated : Core}
      → WantedPair t s term have stated → (Equal have stated → ⊥) → CostMoreThan (core_bodies t.entries) have stated limit
      → BudgetCause limit t s term (Stated stated) have (Some stated)
  head : {w : Want} {got : Core}
      → WantedHead t s term w got → MoreThan (head_step (core_bodies t.entries)) got limit → BudgetCause limit t s term w got None

-- the check comes to the term; or to one whose parts are shaped, and whose rule type this is
pub data IsMet (t : Task) : Core → Type 0 where
  comes : {s : Site} {n : Core} {w : Want} → Comes t s n w → IsMet t n
  rule : {s : Site} {n a : Core} {w : Want}
      → Comes t s n w → ArePartsShaped t.entries s n Nothing → RuleTypeAt t.entries s n a → IsMet t a

-- the check comes to a wanted pair, whose sides differ, or to a wanted head; and within the limit the normalisation sequence of a
-- side of the pair, or the head sequence of the head, reaches the term
pub data IsPassed (limit : ℕ) (t : Task) : Core → Type 0 where
  have : {s : Site} {n a b u : Core} (i : ℕ)
      → IsReached t s n (Stated b) → WantedPair t s n a b → (Equal a b → ⊥)
      → i ≤ limit → after (normal_step (core_bodies t.entries)) i a ≡ Some u → IsPassed limit t u
  stated : {s : Site} {n a b u : Core} (i : ℕ)
      → IsReached t s n (Stated b) → WantedPair t s n a b → (Equal a b → ⊥)
      → i ≤ limit → after (normal_step (core_bodies t.entries)) i b ≡ Some u → IsPassed limit t u
  head : {s : Site} {n got u : Core} {w : Want} (i : ℕ)
      → IsReached t s n w → WantedHead t s n w got
      → i ≤ limit → after (head_step (core_bodies t.entries)) i got ≡ Some u → IsPassed limit t u

-- the term is checked as a whole
pub data IsWhole (t : Task) : Core → Type 0 where
  core : IsWhole t t.core
  written : {a : Core} → t.aim ≡ OfWrittenType a → IsWhole t a

-- what is checked as a whole is at most 2,000 high, and weighs at most 1,048,576
abbrev pub AreMeasured : Task → Type 0
AreMeasured t = (u : Core) → IsWhole t u → (height u ≤ 2000) × (weight u ≤ 1048576)

-- Size and depth are those of a subtree over a limit, of a term that is met or passed; or one that is passed has too long a path,
-- or a whole term is too high or too heavy.
pub data TooLargeCause (limit : ℕ) (t : Task) : ℕ → ℕ → Type 0 where
  met : {u : Core} {size depth : ℕ} → IsMet t u → IsTooLarge u size depth → TooLargeCause limit t size depth
  passed : {u : Core} {size depth : ℕ} → IsPassed limit t u → IsTooLargeOnTheWay u size depth → TooLargeCause limit t size depth
  measured : {u : Core} → IsWhole t u → (2000 < height u) ⊎ (1048576 < weight u) → TooLargeCause limit t 1048577 2001

-- the term takes a level variable
pub data TakesLevel : Core → Type 0 where
  universe : {l : Level} → TakesLevel (Univ l)
  former : {n : Core} → IsFormer n → TakesLevel n

-- the check comes to a term that takes a level variable, and those held and taken so far are as many as the limit
pub data FullCause (t : Task) : Type 0 where
  no_room : {s : Site} {n : Core} {w : Want} → Comes t s n w → TakesLevel n → 1048576 ≤ s.first → FullCause t
