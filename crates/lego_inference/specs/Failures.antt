-- Why a check is refused.
use Rattle.std.specs.Prelude.{ℕ, Option, option_map}
use Rattle.lego_term.specs.Trees.{Core}
use Rattle.lego_laws.specs.Places.{Want, AType, AFunction, APair, Stated, Site, Task, IsReached}
use Rattle.lego_inference.specs.declared.fault.Counted.TheVariants.{Levels}
use Rattle.lego_inference.specs.declared.fault.TypeFault.{TypeFault}
use Rattle.lego_inference.specs.declared.fault.TypeFault.TheVariants.{NotAType, NotAFunction, NotAPair, Mismatch, Budget, TooLarge, Full, Memory}
use Rattle.lego_inference.specs.Locals.{seen_at}
use Rattle.lego_inference.specs.Causes.{WrongHead, MismatchCause, BudgetCause, AreMeasured, TooLargeCause, FullCause}

-- The check of a task, within a limit of steps, is refused so: the fault has its cause, at a place that the check comes to, so that
-- all before it has its shape.
pub data TypeFails (limit : ℕ) (t : Task) : TypeFault → Type 0 where
  not_a_type : {s : Site} {n got : Core}
      → IsReached t s n AType → WrongHead t s n AType got → TypeFails limit t (NotAType (seen_at s n) (seen_at s got))
  not_a_function : {s : Site} {n got : Core}
      → IsReached t s n AFunction → WrongHead t s n AFunction got → TypeFails limit t (NotAFunction (seen_at s n) (seen_at s got))
  not_a_pair : {s : Site} {n got : Core}
      → IsReached t s n APair → WrongHead t s n APair got → TypeFails limit t (NotAPair (seen_at s n) (seen_at s got))
  mismatch : {s : Site} {n have want : Core}
      → IsReached t s n (Stated want) → MismatchCause t s n have want → TypeFails limit t (Mismatch (seen_at s n) (seen_at s have) (seen_at s want))
  budget : {s : Site} {n left : Core} {right : Option Core} {w : Want}
      → IsReached t s n w → BudgetCause limit t s n w left right → TypeFails limit t (Budget (seen_at s left) (option_map (seen_at s) right))
  too_large : {size depth : ℕ} → TooLargeCause limit t size depth → TypeFails limit t (TooLarge size depth)
  full : AreMeasured t → FullCause t → TypeFails limit t (Full Levels 1048576)
  memory : TypeFails limit t Memory
