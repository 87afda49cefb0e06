-- What a check of a whole core answers.
use Rattle.std.proofs.Common.{◌≡◌, ℕ, suc, ◌+◌, ◌≤◌, max, List, [], ◌∷◌, ◌++◌, map, refl, sym, ap, ◌∙◌, subst, Option, Some, Ok, arith, All, append_assoc}
use Rattle.lego_base.specs.declared.place.Place.{Place}
use Rattle.lego_term.specs.declared.level.Level.{Level}
use Rattle.lego_term.specs.Trees.{Core}
use Rattle.lego_term.specs.declared.weight.Extent.{Extent}
use Rattle.lego_term.specs.Sequences.{HeadForm}
use Rattle.lego_term.specs.Weight.{height, weight, IsMeasured}
use Rattle.lego_laws.specs.Entries.{Entry, core_bodies, IsHeld}
use Rattle.lego_laws.specs.RuleTypes.{nodes}
use Rattle.lego_laws.specs.Principal.{core_types, entries_bound}
use Rattle.lego_laws.specs.Facing.{Cumulativity}
use Rattle.lego_laws.specs.Places.{Want, Nothing, AType, Stated, Site, behind, Aim, AnyType, BeAType, OfType, OfWrittenType, want_of, stated_in, Task, IsNew, Stands, Within, Comes, IsReached, HasShape, IsShaped, ArePartsShaped, IsConstraintOfCore, WantsHead, allowance}
use Rattle.lego_laws.specs.Ranges.{levels_bound, locals_bound, pairs_bound, Context, FitsBetween, FitsWantedBetween, FitsWrittenBetween, sort_term}
use Rattle.lego_laws.proofs.lemmas.inference.InferenceLaws.{fits_against, fits_written, contexts_widen}
use Rattle.lego_laws.proofs.lemmas.principal.HeldWithin.{held_within}
use Rattle.lego_level.specs.declared.constraint.Constraint.{Constraint}
use Rattle.lego_level.specs.Graphs.{pairs_of}
use Rattle.lego_compare.specs.Answers.{IsDecidedBy}
use Rattle.lego_inference.specs.declared.entry.Judged.{Judged}
use Rattle.lego_inference.specs.declared.fault.TypeFault.{TypeFault}
use Rattle.lego_inference.specs.Causes.{IsWhole, AreMeasured}
use Rattle.lego_inference.specs.Locals.{IsOver}
use Rattle.lego_inference.specs.Failures.{TypeFails}
use Rattle.lego_inference.specs.Inferred.{AreGathered, IsInferred, IsInferredType, IsChecked, IsCheckedWritten}
use Rattle.lego_inference.specs.private.Judging.{Root, task_on, Inferred, IsTypeBy, HasStated, IsBegun, Fails, FailsAt, PairFails}
use Rattle.lego_inference.proofs.GatherLemmas.{at_both, of_both}
use Rattle.lego_inference.proofs.ShapeLemmas.{shaped_head, shaped_nothing, shaped_stated, sort_fulfils}
use Rattle.lego_inference.proofs.LeafRules.{fits_moved}
use Rattle.lego_inference.proofs.FormerRules.{pairs-append, type_shaped}
use Rattle.lego_inference.proofs.OtherRules.{decided_of_core, decided_within, stated_shaped}
use Rattle.lego_inference.proofs.FailLemmas.{at_pair}

-- a core over entries at a site
abbrev task : List Entry → Site → Core → Aim → Task
task es s m aim = record { entries = es; site = s; core = m; aim = aim }

-- the level variables from the site's number on are new
pub is_new : (es : List Entry) (s : Site) (m : Core) (aim : Aim) → entries_bound es ≤ s.first → locals_bound s.types ≤ s.first → locals_bound (m ∷ stated_in (want_of aim)) ≤ s.first → IsNew (task es s m aim)
is_new es s m aim le lg lm u from held = let k = held_within u s.first es s.types (m ∷ stated_in (want_of aim)) le lg lm held in absurd (omega arith)

abbrev IsWithinLimits : Core → Type 0
IsWithinLimits u = (height u ≤ 2000) × (weight u ≤ 1048576)

within_limits : (u : Core) (x : Extent) → IsMeasured u (Ok x) → IsWithinLimits u
within_limits u x h = (h.2, h.3)

whole_alone : {t : Task} {u : Core} → ((a : Core) → t.aim ≡ OfWrittenType a → ⊥) → IsWithinLimits t.core → IsWhole t u → IsWithinLimits u
whole_alone none h IsWhole.core = h
whole_alone none h (IsWhole.written {a = a} e) = absurd (none a e)

-- a core alone is measured
pub measured_alone : (es : List Entry) (s : Site) (m : Core) (aim : Aim) (x : Extent) → ((a : Core) → aim ≡ OfWrittenType a → ⊥) → IsMeasured m (Ok x) → AreMeasured (task es s m aim)
measured_alone es s m aim x none h = λ u whole. whole_alone {t = task es s m aim} none (within_limits m x h) whole

whole_both : {t : Task} {u a : Core} → t.aim ≡ OfWrittenType a → IsWithinLimits t.core → IsWithinLimits a → IsWhole t u → IsWithinLimits u
whole_both is h k IsWhole.core = h
whole_both {a = a} is h k (IsWhole.written {a = b} e) = let same : a ≡ b = cc in subst IsWithinLimits same k

-- a core and the type that is written with it are
pub measured_both : (es : List Entry) (s : Site) (m a : Core) (x y : Extent) → IsMeasured m (Ok x) → IsMeasured a (Ok y) → AreMeasured (task es s m (OfWrittenType a))
measured_both es s m a x y h k = λ u whole. whole_both {t = task es s m (OfWrittenType a)} {a = a} refl (within_limits m x h) (within_limits a y k) whole

pub is_begun : (es : List Entry) (s : Site) (m : Core) (aim : Aim) → IsNew (task es s m aim) → AreMeasured (task es s m aim) → IsBegun (task es s m aim)
is_begun es s m aim new measured = record { new = new; measured = measured }

module _ (es : List Entry) (limit : ℕ) (s : Site) (m : Core) (fault : TypeFault) where
  -- the refusal of the whole core
  pub whole_fails : (aim : Aim) → IsBegun (task es s m aim) → Fails es limit s m fault → TypeFails limit (task es s m aim) fault
  whole_fails aim begun f = f (record { site = s; core = m; aim = aim }) (want_of aim) begun Comes.root

  no_written : (aim : Aim) → ((a : Core) → aim ≡ OfWrittenType a → ⊥) → IsBegun (task es s m aim) → FailsAt es limit s m (want_of aim) fault → TypeFails limit (task es s m aim) fault
  no_written aim none begun f = f (record { site = s; core = m; aim = aim }) begun Comes.root (λ ps. IsReached.root ps (λ a e. absurd (none a e)))

  pub type_fails : IsBegun (task es s m BeAType) → FailsAt es limit s m AType fault → TypeFails limit (task es s m BeAType) fault
  type_fails begun f = no_written BeAType (λ a e. cc) begun f

  pub check_fails : (want : Core) → IsBegun (task es s m (OfType want)) → FailsAt es limit s m (Stated want) fault → TypeFails limit (task es s m (OfType want)) fault
  check_fails want begun f = no_written (OfType want) (λ a e. cc) begun f

  -- of a written type, behind a core with shaped parts
  pub written_fails : (a : Core) → IsBegun (task es s m (OfWrittenType a)) → ArePartsShaped es s m Nothing → FailsAt es limit (behind (nodes m) s) a AType fault → TypeFails limit (task es s m (OfWrittenType a)) fault
  written_fails a begun parts f = f (record { site = s; core = m; aim = OfWrittenType a }) begun (Comes.written refl parts) (λ ps. IsReached.written refl parts ps)

  -- of the comparison with it
  pub against_fails : (a : Core) → IsBegun (task es s m (OfWrittenType a)) → IsShaped es (behind (nodes m) s) a AType → FailsAt es limit s m (Stated a) fault → TypeFails limit (task es s m (OfWrittenType a)) fault
  against_fails a begun shaped f =
      f (record { site = s; core = m; aim = OfWrittenType a }) begun Comes.root
      (λ ps. IsReached.root ps (λ b e. let same : a ≡ b = cc in subst (λ z. IsShaped es (behind (nodes m) s) z AType) same shaped))

module _ (es : List Entry) (place : Place) (s : Site) (m : Core) where
  gathered : (aim : Aim) (k : List Constraint) (a : Core) → Inferred es place s m k a → allowance (task es s m aim) ≡ nodes m → s.first + nodes m ≤ 1048576 → HasShape (task es s m aim) → AreMeasured (task es s m aim) → AreGathered (task es s m aim) place k (s.first + nodes m)
  gathered aim k a j count few shape measured = record {
    count = ap (λ n. s.first + n) (sym count);
    within = few;
    of_core = j.of_core (record { site = s; core = m; aim = aim }) (want_of aim) (Stands.in_core Within.itself);
    placed = j.placed;
    shape = shape;
    measured = measured;
  }

  only_core : (aim : Aim) → ((a : Core) → aim ≡ OfWrittenType a → ⊥) → IsShaped es s m (want_of aim) → HasShape (task es s m aim)
  only_core aim none shaped = record { core = shaped; written = λ a e. absurd (none a e) }

  judged_by : (aim : Aim) (k : List Constraint) (a : Core) → Inferred es place s m k a → IsOver es s.types (s.first + nodes m) a → allowance (task es s m aim) ≡ nodes m → s.first + nodes m ≤ 1048576 → HasShape (task es s m aim) → AreMeasured (task es s m aim) → IsInferred (task es s m aim) place (record { ty = a; constraints = k; levels = s.first + nodes m })
  judged_by aim k a j over count few shape measured = record { rule = j.rule; over = over; fits = j.fits; gathered = gathered aim k a j count few shape measured }

  -- the answered level variables are within the limit
  few_of : {judged : Judged} {a : Core} {k : List Constraint} {n : ℕ} → judged.levels ≤ 1048576 → judged ≡ record { ty = a; constraints = k; levels = n } → n ≤ 1048576
  few_of few e = subst (λ (n : ℕ). n ≤ 1048576) (ap (λ (j : Judged). j.levels) e) few

  pub inferred_whole : (k : List Constraint) (a : Core) (judged : Judged) → judged.levels ≤ 1048576 → AreMeasured (task es s m AnyType) → Inferred es place s m k a → IsOver es s.types (s.first + nodes m) a → judged ≡ record { ty = a; constraints = k; levels = s.first + nodes m } → IsInferred (task es s m AnyType) place judged
  inferred_whole k a judged few measured j over e = subst (IsInferred (task es s m AnyType) place) (sym e) (judged_by AnyType k a j over (omega arith) (few_of few e) (only_core AnyType (λ b f. cc) (shaped_nothing j.parts)) measured)

  pub type_whole : (k : List Constraint) (a : Core) (sort : Option Level) (judged : Judged) → judged.levels ≤ 1048576 → AreMeasured (task es s m BeAType) → Inferred es place s m k a → IsOver es s.types (s.first + nodes m) a → HeadForm (core_bodies es) a (sort_term sort) → judged ≡ record { ty = a; constraints = k; levels = s.first + nodes m } → IsInferredType (task es s m BeAType) place judged
  type_whole k a sort judged few measured j over head e =
      subst (IsInferredType (task es s m BeAType) place) (sym e) (record {
        inferred = judged_by BeAType k a j over (omega arith) (few_of few e) (only_core BeAType (λ b f. cc) (shaped_head j.parts j.rule head WantsHead.a_type (sort_fulfils sort))) measured;
        sort = sort;
        head = head;
      })

  check_split : (want have : Core) (own more : List Constraint) → levels_bound want ≤ s.first → s.first + nodes m ≤ 1048576 → AreMeasured (task es s m (OfType want)) → Inferred es place s m own have → IsDecidedBy Cumulativity (core_bodies es) have want place more
      → IsChecked (task es s m (OfType want)) want place (record { ty = want; constraints = own ++ more; levels = s.first + nodes m })
  check_split want have own more within few measured j decided = record {
    type = refl;
    fits = λ held c is_type.
        let fm = j.fits held c in
        let big = contexts_widen s.first (s.first + nodes m) (core_types es) (core_bodies es) held s.types (omega arith) c in
        let asked = decided_within es (s.first + nodes m) big.bodies_within fm.type_within (omega arith) decided in
        subst (λ z. FitsWantedBetween s.first (s.first + nodes m) (core_types es) (core_bodies es) held s.types m want z) (sym (pairs-append own more))
        (fits_against s.first (s.first + nodes m) (core_types es) (core_bodies es) held s.types c m have want (pairs_of own) (pairs_of more) within fm asked is_type decided.exact);
    gathered = record {
      count = omega arith;
      within = few;
      of_core = of_both (task es s m (OfType want)) own more (j.of_core (record { site = s; core = m; aim = OfType want }) (Stated want) (Stands.in_core Within.itself)) (decided_of_core j.rule decided (record { site = s; core = m; aim = OfType want }) (Stands.in_core Within.itself));
      placed = at_both place own more j.placed decided.placed;
      shape = only_core (OfType want) (λ b f. cc) (shaped_stated j.parts j.rule decided.zero);
      measured = measured;
    };
  }

  pub check_whole : (want : Core) (k : List Constraint) (judged : Judged) → judged.levels ≤ 1048576 → AreMeasured (task es s m (OfType want)) → levels_bound want ≤ s.first → HasStated es place s m k want → judged ≡ record { ty = want; constraints = k; levels = s.first + nodes m } → IsChecked (task es s m (OfType want)) want place judged
  check_whole want k judged few measured within h e =
      subst (IsChecked (task es s m (OfType want)) want place) (sym (e ∙ ap (λ z. record { ty = want; constraints = z; levels = s.first + nodes m }) h.split))
      (check_split want h.have h.own h.more within (few_of few e) measured h.inferred h.decided)

  written_split : (a have : Core) (km kt more : List Constraint) (sort : Option Level) → levels_bound a ≤ s.first → s.first + nodes m + nodes a ≤ 1048576 → AreMeasured (task es s m (OfWrittenType a)) → Inferred es place s m km have → IsTypeBy es place (behind (nodes m) s) a kt sort → IsDecidedBy Cumulativity (core_bodies es) have a place more
      → IsCheckedWritten (task es s m (OfWrittenType a)) a place (record { ty = a; constraints = km ++ (kt ++ more); levels = s.first + nodes m + nodes a })
  written_split a have km kt more sort within few measured j t decided = record {
    type = refl;
    fits = λ held c.
        let fm = j.fits held c in
        let ft = t.inferred.fits held (contexts_widen s.first (s.first + nodes m) (core_types es) (core_bodies es) held s.types (omega arith) c) in
        let big = contexts_widen s.first (s.first + nodes m + nodes a) (core_types es) (core_bodies es) held s.types (omega arith) c in
        let have_within = fm.type_within in
        let asked = decided_within es (s.first + nodes m + nodes a) big.bodies_within (omega arith) (omega arith) decided in
        subst (λ z. FitsWrittenBetween s.first (s.first + nodes m + nodes a) (core_types es) (core_bodies es) held s.types m a z) (sym (pairs-append km (kt ++ more) ∙ ap (λ z. pairs_of km ++ z) (pairs-append kt more)))
        (fits_written s.first (s.first + nodes m) (s.first + nodes m + nodes a) (core_types es) (core_bodies es) held s.types c m have a t.ty (pairs_of km) (pairs_of kt) (pairs_of more) within fm ft sort t.head asked decided.exact);
    gathered = record {
      count = omega arith;
      within = few;
      of_core = of_both (task es s m (OfWrittenType a)) km (kt ++ more) (j.of_core (record { site = s; core = m; aim = OfWrittenType a }) (Stated a) (Stands.in_core Within.itself))
          (of_both (task es s m (OfWrittenType a)) kt more (t.inferred.of_core (record { site = s; core = m; aim = OfWrittenType a }) AType (Stands.in_written refl Within.itself)) (decided_of_core j.rule decided (record { site = s; core = m; aim = OfWrittenType a }) (Stands.in_core Within.itself)));
      placed = at_both place km (kt ++ more) j.placed (at_both place kt more t.inferred.placed decided.placed);
      shape = record {
        core = shaped_stated j.parts j.rule decided.zero;
        written = λ b e. let same : a ≡ b = cc in subst (λ z. IsShaped es (behind (nodes m) s) z AType) same (type_shaped t);
      };
      measured = measured;
    };
  }

  pub written_whole : (a have : Core) (km kt more : List Constraint) (sort : Option Level) (judged : Judged) → judged.levels ≤ 1048576 → AreMeasured (task es s m (OfWrittenType a)) → levels_bound a ≤ s.first → Inferred es place s m km have → IsTypeBy es place (behind (nodes m) s) a kt sort → IsDecidedBy Cumulativity (core_bodies es) have a place more
      → judged ≡ record { ty = a; constraints = (km ++ kt) ++ more; levels = s.first + nodes m + nodes a } → IsCheckedWritten (task es s m (OfWrittenType a)) a place judged
  written_whole a have km kt more sort judged few measured within j t decided e =
      subst (IsCheckedWritten (task es s m (OfWrittenType a)) a place) (sym (e ∙ ap (λ z. record { ty = a; constraints = z; levels = s.first + nodes m + nodes a }) (append_assoc km kt more)))
      (written_split a have km kt more sort within (few_of few e) measured j t decided)
