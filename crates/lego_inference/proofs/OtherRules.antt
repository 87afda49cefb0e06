-- The rules app, pair, pi1, pi2 and that of local definitions.
use Rattle.std.proofs.Common.{◌≡◌, ℕ, suc, ◌+◌, ◌≤◌, ◌↔◌, max, List, [], ◌∷◌, ◌++◌, map, refl, sym, ap, ◌∙◌, subst, Option, Some, arith, All, Contains, None}
use Rattle.std.specs.List.{AllByRecursion}
use Rattle.std.proofs.lemmas.List.Elements.{All-contains, All-from_recursion, recursion_from_All}
use Rattle.lego_base.specs.declared.place.Place.{Place}
use Rattle.lego_term.specs.declared.binder.Binder.{Binder}
use Rattle.lego_term.specs.declared.binder.Mark.{Mark}
use Rattle.lego_term.specs.declared.binder.Mark.TheVariants.{Plain}
use Rattle.lego_term.specs.declared.level.Level.{Level}
use Rattle.lego_term.specs.Levels.{Assignment, LevelPair, variable_level, SatisfiesAll}
use Rattle.lego_term.specs.Trees.{Core, Var, Const, Prop, Univ, Pi, Lam, App, Sigma, Pair, Fst, Snd, Let, instantiate, levels_of}
use Rattle.lego_term.specs.Sequences.{HeadForm}
use Rattle.lego_laws.specs.Entries.{Entry, core_bodies}
use Rattle.lego_laws.specs.RuleTypes.{RuleType, nodes}
use Rattle.lego_laws.specs.Principal.{core_types}
use Rattle.lego_laws.specs.Facing.{Cumulativity}
use Rattle.lego_laws.specs.Places.{Want, Nothing, AType, AFunction, APair, Stated, Site, behind, under, Part, RuleTypeAt, Stands, IsConstraintOfCore, WantedPair, WantsHead, Fulfils, IsShaped, AreShaped}
use Rattle.lego_laws.specs.Ranges.{level_bound, levels_bound, pairs_bound, Context, FitsBetween, sort_term}
use Rattle.lego_laws.proofs.lemmas.inference.InferenceLaws.{fits_application, fits_pair, fits_first, fits_second, fits_by_others, contexts_widen}
use Rattle.lego_laws.proofs.lemmas.inference.FitsLocal.{fits_local}
use Rattle.lego_laws.proofs.lemmas.inference.LevelsWithin.{levels-instantiate, levels-star}
use Rattle.lego_laws.proofs.lemmas.reduction.HeadSteps.{head_steps}
use Rattle.lego_laws.proofs.lemmas.principal.Nodes.{nodes_are_counted}
use Rattle.lego_level.specs.declared.constraint.Constraint.{Constraint}
use Rattle.lego_level.specs.Graphs.{pairs_of}
use Rattle.lego_compare.specs.Answers.{IsDecidedBy, IsLevelIn}
use Rattle.lego_inference.specs.private.Judging.{Root, task_on, Inferred, IsTypeBy, HasStated, IsPairOf}
use Rattle.lego_inference.specs.declared.head.Former.{Former}
use Rattle.lego_inference.proofs.PlaceLemmas.{stands_part}
use Rattle.lego_inference.proofs.GatherLemmas.{at_both, of_both}
use Rattle.lego_inference.proofs.ShapeLemmas.{all_shaped, none_before, next_shaped, shaped_head, shaped_nothing, shaped_stated}
use Rattle.lego_inference.proofs.LeafRules.{fits_moved}
use Rattle.lego_inference.proofs.FormerRules.{pairs-append, type_shaped, under_domain}

-- the nodes of a term are those of its parts
pub count_app : (k : Mark) (m n : Core) → nodes (App k m n) ≡ nodes m + nodes n
count_app k m n = (nodes_are_counted (record { name = None; mark = Plain }) k 0 (variable_level 0) m n m n).6

pub count_pair : (x : Binder) (a b m n : Core) → nodes (Pair x a b m n) ≡ nodes a + nodes b + nodes m + nodes n
count_pair x a b m n = (nodes_are_counted x Plain 0 (variable_level 0) a b m n).8

pub count_let : (x : Binder) (m n : Core) → nodes (Let x m n) ≡ nodes m + nodes (instantiate n m)
count_let x m n = (nodes_are_counted x Plain 0 (variable_level 0) m n m n).11

-- what a comparison asks are constraints of the core, and its level variables are held
pub decided_of_core : {es : List Entry} {place : Place} {s : Site} {m have want : Core} {more : List Constraint} → RuleTypeAt es s m have → IsDecidedBy Cumulativity (core_bodies es) have want place more
    → (r : Root) → Stands (task_on es r) s m (Stated want) → All (λ c. IsConstraintOfCore (task_on es r) c.low c.high) more
decided_of_core rule d r st = λ k e lt. IsConstraintOfCore.wanted (record { stands = st; rule = rule }) (d.asked k e lt)

-- a term of a stated type is shaped where it is stated
pub stated_shaped : {es : List Entry} {place : Place} {s : Site} {m want : Core} {k : List Constraint} → HasStated es place s m k want → IsShaped es s m (Stated want)
stated_shaped h = shaped_stated h.inferred.parts h.inferred.rule h.decided.zero

both : {X : Type 0} (P : X → Type 0) (xs ys : List X) → AllByRecursion P xs → AllByRecursion P ys → AllByRecursion P (xs ++ ys)
both P [] ys h k = k
both P (x ∷ xs) ys h k = (h.0, both P xs ys h.1 k)

-- levels of a term are within its bound
listed_within : (top : ℕ) (t : Core) → levels_bound t ≤ top → AllByRecursion (λ l. level_bound l ≤ top) (levels_of t)
listed_within top (Var i) h = tt
listed_within top (Const k) h = tt
listed_within top Prop h = tt
listed_within top (Univ l) h = (h, tt)
listed_within top (Pi x a b) h = both _ (levels_of a) (levels_of b) (listed_within top a (omega arith)) (listed_within top b (omega arith))
listed_within top (Lam x a b) h = both _ (levels_of a) (levels_of b) (listed_within top a (omega arith)) (listed_within top b (omega arith))
listed_within top (App k a b) h = both _ (levels_of a) (levels_of b) (listed_within top a (omega arith)) (listed_within top b (omega arith))
listed_within top (Sigma x a b) h = both _ (levels_of a) (levels_of b) (listed_within top a (omega arith)) (listed_within top b (omega arith))
listed_within top (Let x a b) h = both _ (levels_of a) (levels_of b) (listed_within top a (omega arith)) (listed_within top b (omega arith))
listed_within top (Pair x a b m n) h =
    both _ (levels_of a ++ levels_of b ++ levels_of m) (levels_of n)
    (both _ (levels_of a ++ levels_of b) (levels_of m) (both _ (levels_of a) (levels_of b) (listed_within top a (omega arith)) (listed_within top b (omega arith))) (listed_within top m (omega arith)))
    (listed_within top n (omega arith))
listed_within top (Fst m) h = listed_within top m h
listed_within top (Snd m) h = listed_within top m h

contained_within : (top : ℕ) (t : Core) (l : Level) → levels_bound t ≤ top → Contains (levels_of t) l → level_bound l ≤ top
contained_within top t l le c = All-contains (λ x. level_bound x ≤ top) (levels_of t) l (All-from_recursion _ (levels_of t) (listed_within top t le)) c

module _ (es : List Entry) (n : ℕ) (within : (k : ℕ) (t : Core) → core_bodies es k ≡ Some t → levels_bound t ≤ n) where
  level_in_within : {t u : Core} {l : Level} → levels_bound t ≤ n → levels_bound u ≤ n → IsLevelIn (core_bodies es) t u l → level_bound l ≤ n
  level_in_within {t} {u} {l} lt lu (IsLevelIn.of_left c) = contained_within n t l lt c
  level_in_within {t} {u} {l} lt lu (IsLevelIn.of_right c) = contained_within n u l lu c
  level_in_within {l = l} lt lu (IsLevelIn.of_body {k = k} {body = body} e c) = contained_within n body l (within k body e) c

  pairs_within : (t u : Core) → levels_bound t ≤ n → levels_bound u ≤ n → (more : List Constraint) → AllByRecursion (λ c. IsLevelIn (core_bodies es) t u c.low × IsLevelIn (core_bodies es) t u c.high) more → pairs_bound (pairs_of more) ≤ n
  pairs_within t u lt lu [] h = omega arith
  pairs_within t u lt lu (c ∷ more) h =
      let low = level_in_within lt lu h.0.0 in
      let high = level_in_within lt lu h.0.1 in
      let rest = pairs_within t u lt lu more h.1 in
      omega arith

  -- the level variables of what a comparison asks
  pub decided_within : {have want : Core} {place : Place} {more : List Constraint} → levels_bound have ≤ n → levels_bound want ≤ n → IsDecidedBy Cumulativity (core_bodies es) have want place more → pairs_bound (pairs_of more) ≤ n
  decided_within {have = have} {want = want} {more = more} lt lu d = pairs_within have want lt lu more (recursion_from_All _ more d.levels)

  -- those of a head form
  head_within : {t h : Core} → levels_bound t ≤ n → HeadForm (core_bodies es) t h → levels_bound h ≤ n
  head_within {t} {h} le p = levels-star n within (head_steps (core_bodies es) p.0 t h p.1.reaches) le

module _ (es : List Entry) (place : Place) (s : Site) where
  wider : {held : List LevelPair} (n : ℕ) → s.first ≤ n → Context s.first (core_types es) (core_bodies es) held s.types → Context n (core_types es) (core_bodies es) held s.types
  wider {held} n le c = contexts_widen s.first n (core_types es) (core_bodies es) held s.types le c

  -- rule app
  application_split : (k : Mark) (x : Binder) (m n tf a b have : Core) (km own more : List Constraint) → levels_bound (App k m n) ≤ s.first
      → Inferred es place s m km tf → HeadForm (core_bodies es) tf (Pi x a b) → Inferred es place (behind (nodes m) s) n own have → IsDecidedBy Cumulativity (core_bodies es) have a place more
      → Inferred es place s (App k m n) (km ++ (own ++ more)) (instantiate b n)
  application_split k x m n tf a b have km own more within f head arg decided = record {
    rule = RuleType.application f.rule head;
    parts = all_shaped (next_shaped 1 (next_shaped 0 none_before Part.function (shaped_head f.parts f.rule head WantsHead.a_function Fulfils.a_function)) (Part.argument f.rule head) (shaped_stated arg.parts arg.rule decided.zero));
    fits = λ held c.
        let ff = f.fits held c in
        let fa = arg.fits held (wider (s.first + nodes m) (omega arith) c) in
        let big = wider (s.first + nodes m + nodes n) (omega arith) c in
        let tf_within = ff.type_within in
        let have_within = fa.type_within in
        let head_bound : levels_bound (Pi x a b) ≤ s.first + nodes m + nodes n = head_within es (s.first + nodes m + nodes n) big.bodies_within (omega arith) head in
        fits_moved (omega (arith, count_app k m n)) (sym (pairs-append km (own ++ more) ∙ ap (λ z. pairs_of km ++ z) (pairs-append own more)))
        (fits_application s.first (s.first + nodes m) (s.first + nodes m + nodes n) (core_types es) (core_bodies es) held s.types c k x m n tf a b have (pairs_of km) (pairs_of own) (pairs_of more) (omega arith) (omega arith)
        ff head fa (decided_within es (s.first + nodes m + nodes n) big.bodies_within have_within (omega arith) decided) decided.exact);
    of_core = λ r w st. of_both (task_on es r) km (own ++ more) (f.of_core r AFunction (stands_part st Part.function))
        (of_both (task_on es r) own more (arg.of_core r (Stated a) (stands_part st (Part.argument f.rule head))) (decided_of_core arg.rule decided r (stands_part st (Part.argument f.rule head))));
    placed = at_both place km (own ++ more) f.placed (at_both place own more arg.placed decided.placed);
  }

  pub application_inferred : (k : Mark) (m n tf : Core) (former : Former) (km kn : List Constraint) → levels_bound (App k m n) ≤ s.first
      → Inferred es place s m km tf → HeadForm (core_bodies es) tf (Pi former.binder former.domain former.body) → HasStated es place (behind (nodes m) s) n kn former.domain
      → Inferred es place s (App k m n) (km ++ kn) (instantiate former.body n)
  application_inferred k m n tf former km kn within f head h =
      subst (λ z. Inferred es place s (App k m n) (km ++ z) (instantiate former.body n)) (sym h.split)
      (application_split k former.binder m n tf former.domain former.body h.have km h.own h.more within f head h.inferred h.decided)

  -- rules pi1 and pi2
  pub first_inferred : (m : Core) (k : List Constraint) (former : Former) → levels_bound (Fst m) ≤ s.first → IsPairOf es place s m k former → Inferred es place s (Fst m) k former.domain
  first_inferred m k former within p = record {
    rule = RuleType.first p.inferred.rule p.head;
    parts = all_shaped (next_shaped 0 none_before Part.fst_operand (shaped_head p.inferred.parts p.inferred.rule p.head WantsHead.a_pair Fulfils.a_pair));
    fits = λ held c. fits_moved (omega arith) refl
        (fits_first s.first (s.first + nodes m) (core_types es) (core_bodies es) held s.types c former.binder m p.ty former.domain former.body (pairs_of k) within (p.inferred.fits held c) p.head);
    of_core = λ r w st. p.inferred.of_core r APair (stands_part st Part.fst_operand);
    placed = p.inferred.placed;
  }

  pub second_inferred : (m : Core) (k : List Constraint) (former : Former) → levels_bound (Snd m) ≤ s.first → IsPairOf es place s m k former → Inferred es place s (Snd m) k (instantiate former.body (Fst m))
  second_inferred m k former within p = record {
    rule = RuleType.second p.inferred.rule p.head;
    parts = all_shaped (next_shaped 0 none_before Part.snd_operand (shaped_head p.inferred.parts p.inferred.rule p.head WantsHead.a_pair Fulfils.a_pair));
    fits = λ held c. fits_moved (omega arith) refl
        (fits_second s.first (s.first + nodes m) (core_types es) (core_bodies es) held s.types c former.binder m p.ty former.domain former.body (pairs_of k) within (p.inferred.fits held c) p.head);
    of_core = λ r w st. p.inferred.of_core r APair (stands_part st Part.snd_operand);
    placed = p.inferred.placed;
  }

  -- the rule of local definitions
  pub local_inferred : (x : Binder) (m n tm tn : Core) (km kn : List Constraint) → levels_bound (Let x m n) ≤ s.first
      → Inferred es place s m km tm → Inferred es place (behind (nodes m) s) (instantiate n m) kn tn → Inferred es place s (Let x m n) (km ++ kn) tn
  local_inferred x m n tm tn km kn within v j = record {
    rule = RuleType.local j.rule;
    parts = all_shaped (next_shaped 1 (next_shaped 0 none_before Part.local_value (shaped_nothing v.parts)) Part.local_body (shaped_nothing j.parts));
    fits = λ held c. fits_moved (omega (arith, count_let x m n)) (sym (pairs-append km kn))
        (fits_local s.first (s.first + nodes m) (s.first + nodes m + nodes (instantiate n m)) (core_types es) (core_bodies es) held s.types c x m tm n tn (pairs_of km) (pairs_of kn) (omega arith) (omega arith)
        (v.fits held c) (j.fits held (wider (s.first + nodes m) (omega arith) c)));
    of_core = λ r w st. of_both (task_on es r) km kn (v.of_core r Nothing (stands_part st Part.local_value)) (j.of_core r w (stands_part st Part.local_body));
    placed = at_both place km kn v.placed j.placed;
  }
