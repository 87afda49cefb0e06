-- What a check over entries answers is an answer over their context.
use Rattle.std.proofs.Common.{Result, Ok, Err, List}
use Rattle.lego_term.specs.Trees.{Core}
use Rattle.lego_laws.specs.Places.{AnyType, OfType}
use Rattle.lego_inference.specs.declared.entry.At.{At}
use Rattle.lego_inference.specs.declared.entry.Judged.{Judged}
use Rattle.lego_inference.specs.declared.fault.TypeFault.{TypeFault}
use Rattle.lego_inference.specs.declared.locals.Local.{Local}
use Rattle.lego_inference.specs.Calls.{task_over, Infers as InfersOver, Checks as ChecksOver}
use Rattle.lego_context.specs.Calls.{CanBeInferred, CanBeChecked, Infers, Checks}
use Rattle.lego_context.specs.Contexts.{Contents, IsContext}
use Rattle.lego_context.proofs.FitLemmas.{fits_rule, fits_wanted}

module _ (c : Contents) (x : IsContext c) (locals : List Local) (m : Core) (asked : At) where
  pub infers : CanBeInferred c locals m → (r : Result Judged TypeFault) → InfersOver (task_over c.entries locals c.levels m AnyType) asked r → Infers c locals m asked r
  infers can (Ok judged) j = record { fits = fits_rule c x locals can.in_order m can.term asked.place judged j; gathered = j.gathered; over = j.over }
  infers can (Err fault) f = f

  pub checks : (want : Core) → CanBeChecked c locals m want → (r : Result Judged TypeFault) → ChecksOver (task_over c.entries locals c.levels m (OfType want)) want asked r → Checks c locals m want asked r
  checks want can (Ok judged) j = record {
    type = j.type;
    fits = fits_wanted c x locals can.inferred.in_order m can.inferred.term asked.place judged want can.wanted can.is_type j;
    gathered = j.gathered;
  }
  checks want can (Err fault) f = f
