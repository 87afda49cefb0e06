-- What is wanted of a head form, and its refusals.
use Rattle.std.specs.Prelude.{◌≡◌, ℕ, ◌≤◌, ◌⊎◌, List, Some, None, Result, Ok, Err}
use Rattle.lego_term.specs.declared.binder.Binder.{Binder}
use Rattle.lego_term.specs.Trees.{Core}
use Rattle.lego_term.specs.Parts.{IsTooLarge}
use Rattle.lego_term.specs.Sequences.{HeadForm, head_step, after, MoreThan}
use Rattle.lego_laws.specs.Entries.{Entry, core_bodies}
use Rattle.lego_laws.specs.Places.{Want, Fulfils, AType, AFunction, APair}
use Rattle.lego_compare.specs.declared.fault.CompareFault.{CompareFault}
use Rattle.lego_compare.specs.declared.fault.CompareFault.TheVariants as compare
use Rattle.lego_inference.specs.declared.fault.TypeFault.{TypeFault}
use Rattle.lego_inference.specs.declared.fault.TypeFault.TheVariants as fault
use Rattle.lego_inference.specs.declared.head.Wanted.{Wanted}
use Rattle.lego_inference.specs.declared.head.Wanted.TheVariants.{Sort, Function, Pair}
use Rattle.lego_inference.specs.Locals.{seen_under}
use Rattle.lego_inference.specs.private.Judging.{wrong}

abbrev pub want_of : Wanted → Want
want_of Sort = AType
want_of Function = AFunction
want_of Pair = APair

-- the head form is not found
pub data LacksHead (es : List Entry) (limit : ℕ) (xs : List Binder) (got : Core) : TypeFault → Type 0 where
  budget : MoreThan (head_step (core_bodies es)) got limit → LacksHead es limit xs got (fault.Budget (seen_under xs got) None)
  too_large : {u : Core} {size depth : ℕ} (i : ℕ)
      → i ≤ limit → after (head_step (core_bodies es)) i got ≡ Some u → IsTooLarge u size depth → LacksHead es limit xs got (fault.TooLarge size depth)
  memory : LacksHead es limit xs got fault.Memory

abbrev pub IsHeadOf : List Entry → ℕ → List Binder → Core → Result Core TypeFault → Type 0
IsHeadOf es limit xs got (Ok h) = HeadForm (core_bodies es) got h
IsHeadOf es limit xs got (Err why) = LacksHead es limit xs got why

-- the refusal of the term, unless memory ran out
pub data Wrongs (w : Want) (xs : List Binder) (m got : Core) : TypeFault → Type 0 where
  unfit : Wrongs w xs m got (wrong w (seen_under xs m) (seen_under xs got))
  memory : Wrongs w xs m got fault.Memory

-- what is found is this head form, or the head form is not as wanted
abbrev pub IsIn : {T : Type 0} → (T → Core) → Want → List Binder → (m got h : Core) → Result T TypeFault → Type 0
IsIn head_of w xs m got h (Ok found) = h ≡ head_of found
IsIn head_of w xs m got h (Err why) = (why ≡ fault.Memory) ⊎ ((Fulfils w h → ⊥) × Wrongs w xs m got why)

-- the refusal of a term by a comparison's fault, unless memory ran out
pub data Refuses (xs : List Binder) (m have want : Core) : CompareFault → TypeFault → Type 0 where
  mismatch : {left right : Core} {deeper : ℕ} → Refuses xs m have want (compare.Differ left right deeper) (fault.Mismatch (seen_under xs m) (seen_under xs have) (seen_under xs want))
  budget : Refuses xs m have want compare.Budget (fault.Budget (seen_under xs have) (Some (seen_under xs want)))
  too_large : {size depth : ℕ} → Refuses xs m have want (compare.TooLarge size depth) (fault.TooLarge size depth)
  memory : {why : CompareFault} → Refuses xs m have want why fault.Memory
