-- What a check over a context answers fits.
use Rattle.std.proofs.Common.{◌≡◌, ◌+◌, List, map, Option, Some, None, arith}
use Rattle.lego_base.specs.declared.place.Place.{Place}
use Rattle.lego_term.specs.declared.level.Level.{Level}
use Rattle.lego_term.specs.Levels.{Assignment, LevelPair, SatisfiesAll}
use Rattle.lego_term.specs.Trees.{Core, at}
use Rattle.lego_laws.specs.Entries.{entries_at, core_bodies, kept}
use Rattle.lego_laws.specs.Fitting.{FitsRule, FitsType, FitsWanted, FitsWritten}
use Rattle.lego_laws.specs.Judgement.{IsType}
use Rattle.lego_laws.specs.Places.{AType, Fulfils, AnyType, BeAType, OfType, OfWrittenType}
use Rattle.lego_laws.specs.Principal.{core_types}
use Rattle.lego_laws.specs.Ranges.{Context, FitsBetween, sort_term}
use Rattle.lego_laws.specs.RuleTypes.{RuleType, nodes}
use Rattle.lego_laws.proofs.lemmas.principal.EntriesAt.{types_at, bodies_at_values}
use Rattle.lego_laws.proofs.lemmas.principal.PrincipalLaws.{principal_rule_types, principal_checks, principal_definitions}
use Rattle.lego_laws.proofs.lemmas.typing.Rules.{derived}
use Rattle.lego_laws.proofs.lemmas.principal.SolvedCores.{derives_over}
use Rattle.lego_level.specs.Graphs.{pairs_of}
use Rattle.lego_inference.specs.declared.entry.Judged.{Judged}
use Rattle.lego_inference.specs.declared.locals.Local.{Local}
use Rattle.lego_inference.specs.Calls.{IsTermOver, task_over}
use Rattle.lego_inference.specs.Entries.{laws_entries}
use Rattle.lego_inference.specs.Inferred as over
use Rattle.lego_inference.specs.Locals.{types_of}
use Rattle.lego_context.specs.Calls.{AreLocals}
use Rattle.lego_context.specs.Contexts.{Contents, IsContext}
use Rattle.lego_context.proofs.ContextLemmas.{serves}

-- the head form of a sort is of the form that a type's type has
sort_fulfils : (sort : Option Level) → Fulfils AType (sort_term sort)
sort_fulfils None = Fulfils.a_prop
sort_fulfils (Some l) = Fulfils.a_universe

module _ (c : Contents) (x : IsContext c) (locals : List Local) (l : AreLocals c locals) (m : Core) (term : IsTermOver c.entries locals c.levels m) (place : Place) (judged : Judged) where
  by_rule : RuleType (laws_entries c.entries) (λ i. i) (types_of locals) c.levels m judged.ty → judged.levels ≡ c.levels + nodes m
      → ((k : List LevelPair) → Context c.levels (core_types (laws_entries c.entries)) (core_bodies (laws_entries c.entries)) k (types_of locals)
      → FitsBetween c.levels judged.levels (core_types (laws_entries c.entries)) (core_bodies (laws_entries c.entries)) k (types_of locals) m judged.ty (pairs_of judged.constraints))
      → FitsRule c.levels judged.levels (laws_entries c.entries) (types_of locals) m judged.ty (pairs_of judged.constraints)
  by_rule rule count fits =
      principal_rule_types (laws_entries c.entries) c.levels judged.levels x.valid x.entries_held (types_of locals) m judged.ty (pairs_of judged.constraints)
      (serves c x locals l) term.levels_within rule (omega arith) (fits (kept (laws_entries c.entries)) (serves c x locals l))

  pub fits_rule : over.IsInferred (task_over c.entries locals c.levels m AnyType) place judged
      → FitsRule c.levels judged.levels (laws_entries c.entries) (types_of locals) m judged.ty (pairs_of judged.constraints)
  fits_rule j = by_rule j.rule (let count = j.gathered.count in omega arith) j.fits

  pub fits_type : over.IsInferredType (task_over c.entries locals c.levels m BeAType) place judged
      → FitsType c.levels judged.levels (laws_entries c.entries) (types_of locals) m (pairs_of judged.constraints)
  fits_type j = record {
    ty = judged.ty;
    is_type = (sort_term j.sort, j.head, sort_fulfils j.sort);
    rule = by_rule j.inferred.rule (let count = j.inferred.gathered.count in omega arith) j.inferred.fits;
  }

  pub fits_wanted : (want : Core) → IsTermOver c.entries locals c.levels want
      → ((v : Assignment) → SatisfiesAll v (kept (laws_entries c.entries)) → IsType (entries_at v (laws_entries c.entries)) (map (at v) (types_of locals)) (at v want))
      → over.IsChecked (task_over c.entries locals c.levels m (OfType want)) want place judged
      → FitsWanted c.levels judged.levels (laws_entries c.entries) (types_of locals) m want (pairs_of judged.constraints)
  fits_wanted want over_all is_type j =
      principal_checks (laws_entries c.entries) c.levels judged.levels x.valid x.entries_held (types_of locals) m want (pairs_of judged.constraints)
      (serves c x locals l) term.levels_within over_all.levels_within
      (j.fits (kept (laws_entries c.entries)) (serves c x locals l) (λ v h.
      let w = is_type v h in
      let es = laws_entries c.entries in
      (w.0, derives_over (types_at es v (x.valid v h)) (bodies_at_values es v (x.valid v h)) (derived w.1).0)))

  pub fits_written : (written : Core) → IsTermOver c.entries locals c.levels written
      → over.IsCheckedWritten (task_over c.entries locals c.levels m (OfWrittenType written)) written place judged
      → FitsWritten c.levels judged.levels (laws_entries c.entries) (types_of locals) m written (pairs_of judged.constraints)
  fits_written written over_all j =
      principal_definitions (laws_entries c.entries) c.levels judged.levels x.valid x.entries_held (types_of locals) m written (pairs_of judged.constraints)
      (serves c x locals l) term.levels_within over_all.levels_within (j.fits (kept (laws_entries c.entries)) (serves c x locals l))
