-- Terms as commands.
use Rattle.std.proofs.Common.{◌≡◌, List, [], refl, sym, subst, arith}
use Rattle.lego_term.specs.Trees.{Core}
use Rattle.lego_laws.specs.Fitting.{FitsRule}
use Rattle.lego_level.specs.Graphs.{pairs_of}
use Rattle.lego_inference.specs.declared.entry.At.{At}
use Rattle.lego_inference.specs.declared.entry.Judged.{Judged}
use Rattle.lego_inference.specs.declared.fault.TypeFault.{TypeFault}
use Rattle.lego_inference.specs.declared.locals.Local.{Local}
use Rattle.lego_inference.specs.Entries.{laws_entries}
use Rattle.lego_inference.specs.Inferred.{AreGathered}
use Rattle.lego_context.specs.Calls.{CanBeInferred, IsInferred}
use Rattle.lego_context.specs.Causes.{together, AreAsked, TypingFails}
use Rattle.lego_context.specs.Contexts.{Contents, IsContext}
use Rattle.lego_context.specs.Settling.{CanBeSettled, IsUnsettled}
use Rattle.lego_context.specs.Typed.{CanBeTyped, term_task}
use Rattle.lego_context.proofs.CauseLemmas.{typing_fails}
use Rattle.lego_context.proofs.ContextLemmas.{no_locals}
use Rattle.lego_context.proofs.SettleLemmas.{constraints_below}

-- without locals a term can be inferred
pub can_be_inferred : (c : Contents) (locals : List Local) (m : Core) → IsContext c → locals ≡ [] → CanBeTyped c m → CanBeInferred c locals m
can_be_inferred c locals m x none term = subst (λ (l : List Local). CanBeInferred c l m) (sym none) (record { in_order = no_locals c x; term = term })

module _ (c : Contents) (x : IsContext c) (m : Core) (asked : At) (judged : Judged) (j : IsInferred c [] m asked.place judged) where
  asked_of_term : AreAsked (term_task c m) asked.place judged.constraints
  asked_of_term = record {
    fits = (judged.ty, subst (λ n. FitsRule c.levels n (laws_entries c.entries) [] m judged.ty (pairs_of judged.constraints)) j.gathered.count j.fits);
    gathered = subst (AreGathered (term_task c m) asked.place judged.constraints) j.gathered.count j.gathered;
  }

  pub can_be_settled : CanBeSettled c judged.constraints judged.levels
  can_be_settled = record { context = let count = j.gathered.count in omega arith; constraints = constraints_below judged.levels judged.constraints j.fits.within }

  -- constraints that can't be settled are a refusal of the term
  pub term_fails : (f : TypeFault) → IsUnsettled (together c.entries judged.constraints) f → TypingFails c.entries (term_task c m) asked f
  term_fails f h = typing_fails c.entries (term_task c m) judged.constraints x.valid refl asked asked_of_term f h
