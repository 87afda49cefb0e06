-- Why a rule type is not found.
use Rattle.std.specs.Prelude.{◌≡◌, ℕ, ◌+◌, ◌≤◌, ◌<◌, ◌⊎◌, List, Some, None}
use Rattle.lego_term.specs.Trees.{Core}
use Rattle.lego_term.specs.Weight.{height, weight}
use Rattle.lego_term.specs.Parts.{IsTooLarge}
use Rattle.lego_term.specs.Sequences.{head_step, after, MoreThan}
use Rattle.lego_laws.specs.Entries.{Entry, core_bodies}
use Rattle.lego_laws.specs.Places.{Site, RuleTypeAt}
use Rattle.lego_laws.specs.RuleTypes.{nodes}
use Rattle.lego_inference.specs.declared.fault.Counted.TheVariants.{Levels}
use Rattle.lego_inference.specs.declared.fault.TypeFault.{TypeFault}
use Rattle.lego_inference.specs.declared.fault.TypeFault.TheVariants.{Budget, TooLarge, Full, Memory}
use Rattle.lego_inference.specs.Locals.{seen_at}
use Rattle.lego_rule_types.specs.Used.{IsUsed, IsHeadUsed}

-- The search for the rule type stops at a part: the head sequence of a rule type whose head form is used is longer than the limit;
-- a rule type that is used has a subtree of these numbers over a limit of terms; or a term has one that such a head sequence
-- reaches within the limit.
pub data Stops (es : List Entry) (limit : ℕ) (s : Site) (m : Core) : TypeFault → Type 0 where
  budget : {s' : Site} {n left : Core}
      → IsHeadUsed s m s' n → RuleTypeAt es s' n left → MoreThan (head_step (core_bodies es)) left limit → Stops es limit s m (Budget (seen_at s' left) None)
  rule : {s' : Site} {n a : Core} {size depth : ℕ}
      → IsUsed s m s' n → RuleTypeAt es s' n a → IsTooLarge a size depth → Stops es limit s m (TooLarge size depth)
  passed : {s' : Site} {n a u : Core} {size depth : ℕ} (i : ℕ)
      → IsHeadUsed s m s' n → RuleTypeAt es s' n a → i ≤ limit → after (head_step (core_bodies es)) i a ≡ Some u → IsTooLarge u size depth
      → Stops es limit s m (TooLarge size depth)
  memory : Stops es limit s m Memory

-- the term is within the limits of height and weight, and the level variables held and those of its nodes are within theirs
pub record HasRoom (s : Site) (m : Core) : Type 0 where
  pub high : height m ≤ 2000
  pub heavy : weight m ≤ 1048576
  pub levels : s.first + nodes m ≤ 1048576

-- The rule type of a term at a site is not answered: the term is too high or too heavy; or it is neither, and there are too few
-- level variables for its nodes; or it has room, and the search stops; or memory ran out.
pub data RuleTypeFails (es : List Entry) (limit : ℕ) (s : Site) (m : Core) : TypeFault → Type 0 where
  measured : (2000 < height m) ⊎ (1048576 < weight m) → RuleTypeFails es limit s m (TooLarge 1048577 2001)
  full : height m ≤ 2000 → weight m ≤ 1048576 → 1048576 < s.first + nodes m → RuleTypeFails es limit s m (Full Levels 1048576)
  stops : {fault : TypeFault} → HasRoom s m → Stops es limit s m fault → RuleTypeFails es limit s m fault
  memory : RuleTypeFails es limit s m Memory
