-- The rules of binders: Pi1, Pi2, Sigma and lambda.
use Rattle.std.proofs.Common.{◌≡◌, ℕ, suc, ◌+◌, ◌≤◌, max, List, [], ◌∷◌, ◌++◌, map, refl, sym, ap, ◌∙◌, subst, Option, Some, None, arith, All, add-one}
use Rattle.std.proofs.lemmas.List.{map-append, append-nil}
use Rattle.lego_base.specs.declared.place.Place.{Place}
use Rattle.lego_term.specs.declared.binder.Binder.{Binder}
use Rattle.lego_term.specs.declared.binder.Mark.TheVariants.{Plain}
use Rattle.lego_term.specs.declared.level.Level.{Level}
use Rattle.lego_term.specs.Levels.{LevelPair, variable_level}
use Rattle.lego_term.specs.Trees.{Core, Prop, Univ, Pi, Lam, Sigma}
use Rattle.lego_term.specs.Sequences.{HeadForm}
use Rattle.lego_laws.specs.Parallel.{CoreBodies}
use Rattle.lego_laws.specs.Entries.{Entry, core_bodies}
use Rattle.lego_laws.specs.RuleTypes.{RuleType, nodes}
use Rattle.lego_laws.specs.Principal.{core_types}
use Rattle.lego_laws.specs.Places.{Want, Nothing, AType, Site, behind, under, Part, RuleTypeAt, Stands, IsFormer, a_product, a_sigma, IsConstraintOfCore, WantsHead, IsShaped, AreShaped, ArePartsShaped}
use Rattle.lego_laws.specs.Ranges.{level_bound, levels_bound, Context, FitsBetween, sort_term, sort_at_most}
use Rattle.lego_laws.proofs.lemmas.inference.InferenceLaws.{fits_lambda, fits_proposition, fits_product, fits_sigma, contexts_widen, contexts_grow}
use Rattle.lego_laws.proofs.lemmas.principal.Nodes.{nodes_are_counted}
use Rattle.lego_level.specs.declared.constraint.Constraint.{Constraint}
use Rattle.lego_level.specs.Graphs.{pairs_of, pair_of}
use Rattle.lego_inference.specs.declared.rules.Formed.{Formed}
use Rattle.lego_inference.specs.private.Gathering.{asked_at, asked_of_sort, asked_of_former, asked_of_product, product_sort}
use Rattle.lego_inference.specs.private.Judging.{Root, task_on, Inferred, IsTypeBy, IsFormed}
use Rattle.lego_inference.proofs.GatherLemmas.{at_none, at_sort, at_both, of_none, of_one, of_both}
use Rattle.lego_inference.proofs.PlaceLemmas.{stands_part}
use Rattle.lego_inference.proofs.ShapeLemmas.{all_shaped, none_before, next_shaped, shaped_head, shaped_nothing, sort_fulfils}
use Rattle.lego_inference.proofs.LeafRules.{fits_moved}

pub pairs-append : (xs ys : List Constraint) → pairs_of (xs ++ ys) ≡ pairs_of xs ++ pairs_of ys
pairs-append xs ys = map-append pair_of xs ys

pairs_of_sort : (sort : Option Level) (l : Level) (place : Place) → pairs_of (asked_of_sort sort l place) ≡ sort_at_most sort l
pairs_of_sort None l place = refl
pairs_of_sort (Some m) l place = refl

pairs_of_former : (xs ys : List Constraint) (s t : Option Level) (l : Level) (place : Place) → pairs_of ((xs ++ ys) ++ (asked_of_sort s l place ++ asked_of_sort t l place)) ≡ (pairs_of xs ++ pairs_of ys) ++ (sort_at_most s l ++ sort_at_most t l)
pairs_of_former xs ys s t l place =
    let e = pairs-append (xs ++ ys) (asked_of_sort s l place ++ asked_of_sort t l place) in
    let f = pairs-append xs ys in
    let g = pairs-append (asked_of_sort s l place) (asked_of_sort t l place) in
    let h = pairs_of_sort s l place in
    let i = pairs_of_sort t l place in
    cc

-- the nodes of a binder's term are its own and those of its parts
pub count_pi : (x : Binder) (a b : Core) → nodes (Pi x a b) ≡ suc (nodes a + nodes b)
count_pi x a b = (nodes_are_counted x Plain 0 (variable_level 0) a b a b).4

pub count_lam : (x : Binder) (a m : Core) → nodes (Lam x a m) ≡ nodes a + nodes m
count_lam x a m = (nodes_are_counted x Plain 0 (variable_level 0) a a m m).5

pub count_sigma : (x : Binder) (a b : Core) → nodes (Sigma x a b) ≡ suc (nodes a + nodes b)
count_sigma x a b = (nodes_are_counted x Plain 0 (variable_level 0) a b a b).7

-- a type is shaped where a type is wanted
pub type_shaped : {es : List Entry} {place : Place} {s : Site} {a : Core} {k : List Constraint} {sort : Option Level} → IsTypeBy es place s a k sort → IsShaped es s a AType
type_shaped {sort = sort} t = shaped_head t.inferred.parts t.inferred.rule t.head WantsHead.a_type (sort_fulfils sort)

low_moved : {n n' n₁ : ℕ} {c b : CoreBodies} {held : List LevelPair} {g : List Core} {m a : Core} {k : List LevelPair} → n ≡ n' → FitsBetween n n₁ c b held g m a k → FitsBetween n' n₁ c b held g m a k
low_moved {n₁ = n₁} {c = c} {b = b} {held = held} {g = g} {m = m} {a = a} {k = k} e h = subst (λ z. FitsBetween z n₁ c b held g m a k) e h

module _ (es : List Entry) (place : Place) (s : Site) (x : Binder) (a : Core) where
  -- under a domain that is a type
  pub under_domain : {first : ℕ} {k : List Constraint} {sort : Option Level} → s.first ≤ first → levels_bound a ≤ s.first → IsTypeBy es place (record { types = s.types; binders = s.binders; first = first }) a k sort → (held : List LevelPair) → Context s.first (core_types es) (core_bodies es) held s.types
      → Context (first + nodes a) (core_types es) (core_bodies es) (held ++ pairs_of k) (a ∷ s.types)
  under_domain {first} {k} {sort} le within t held c =
      contexts_grow s.first first (first + nodes a) (core_types es) (core_bodies es) held s.types c a t.ty (pairs_of k) within le
      (t.inferred.fits held (contexts_widen s.first first (core_types es) (core_bodies es) held s.types le c)) sort t.head

  -- rule lambda
  pub lambda_inferred : (m tm : Core) (ka km : List Constraint) (sort : Option Level) → levels_bound (Lam x a m) ≤ s.first
      → IsTypeBy es place s a ka sort → Inferred es place (under x a s) m km tm → Inferred es place s (Lam x a m) (ka ++ km) (Pi x a tm)
  lambda_inferred m tm ka km sort within d j = record {
    rule = RuleType.lambda j.rule;
    parts = all_shaped (next_shaped 1 (next_shaped 0 none_before Part.lam_domain (type_shaped d)) Part.lam_body (shaped_nothing j.parts));
    fits = λ held c. fits_moved (omega (arith, count_lam x a m)) (sym (pairs-append ka km))
        (fits_lambda s.first (s.first + nodes a) (s.first + nodes a + nodes m) (core_types es) (core_bodies es) held s.types c x a d.ty m tm (pairs_of ka) (pairs_of km) (omega arith) (omega arith)
        (d.inferred.fits held c) sort d.head (j.fits (held ++ pairs_of ka) (under_domain (omega arith) (omega arith) d held c)));
    of_core = λ r w st. of_both (task_on es r) ka km (d.inferred.of_core r AType (stands_part st Part.lam_domain)) (j.of_core r Nothing (stands_part st Part.lam_body));
    placed = at_both place ka km d.inferred.placed j.placed;
  }

module _ (es : List Entry) (place : Place) (s : Site) (x : Binder) (a b : Core) (ka kb : List Constraint) (sa : Option Level) (d : IsTypeBy es place (behind 1 s) a ka sa) where
  -- a product or a Sigma type, in its universe
  module _ (n : Core) (former : IsFormer n) (rule : RuleTypeAt es s n (Univ (variable_level s.first))) (first : (w : Want) → Part es s n w 0 (behind 1 s) a AType) (second : (w : Want) → Part es s n w 1 (under x a (behind 1 s)) b AType) where
    sort_of_core : {w : Want} {i : ℕ} {s' : Site} {n' ty : Core} (r : Root) (sort : Option Level) → Stands (task_on es r) s n w → Part es s n w i s' n' AType → RuleTypeAt es s' n' ty → HeadForm (core_bodies es) ty (sort_term sort)
        → All (λ c. IsConstraintOfCore (task_on es r) c.low c.high) (asked_of_sort sort (variable_level s.first) place)
    sort_of_core r None st p t h = of_none (task_on es r)
    sort_of_core r (Some l) st p t h = of_one (task_on es r) place l (variable_level s.first) (IsConstraintOfCore.part st former rule p t h)

    former_of_core : (sb : Option Level) → IsTypeBy es place (under x a (behind 1 s)) b kb sb → (r : Root) (w : Want) → Stands (task_on es r) s n w
        → All (λ c. IsConstraintOfCore (task_on es r) c.low c.high) ((ka ++ kb) ++ (asked_of_sort sa (variable_level s.first) place ++ asked_of_sort sb (variable_level s.first) place))
    former_of_core sb e r w st =
        of_both (task_on es r) (ka ++ kb) (asked_of_sort sa (variable_level s.first) place ++ asked_of_sort sb (variable_level s.first) place)
        (of_both (task_on es r) ka kb (d.inferred.of_core r AType (stands_part st (first w))) (e.inferred.of_core r AType (stands_part st (second w))))
        (of_both (task_on es r) (asked_of_sort sa (variable_level s.first) place) (asked_of_sort sb (variable_level s.first) place) (sort_of_core r sa st (first w) d.inferred.rule d.head) (sort_of_core r sb st (second w) e.inferred.rule e.head))

  former_placed : (sb : Option Level) (l : Level) → IsTypeBy es place (under x a (behind 1 s)) b kb sb → All (λ c. c.place ≡ Some place) ((ka ++ kb) ++ (asked_of_sort sa l place ++ asked_of_sort sb l place))
  former_placed sb l e =
      at_both place (ka ++ kb) (asked_of_sort sa l place ++ asked_of_sort sb l place) (at_both place ka kb d.inferred.placed e.inferred.placed)
      (at_both place (asked_of_sort sa l place) (asked_of_sort sb l place) (at_sort place sa l) (at_sort place sb l))

  domain_fits : (held : List LevelPair) → Context s.first (core_types es) (core_bodies es) held s.types → FitsBetween (suc s.first) (s.first + 1 + nodes a) (core_types es) (core_bodies es) held s.types a d.ty (pairs_of ka)
  domain_fits held c = low_moved (add-one s.first) (d.inferred.fits held (contexts_widen s.first (s.first + 1) (core_types es) (core_bodies es) held s.types (omega arith) c))

  body_fits : (sb : Option Level) (e : IsTypeBy es place (under x a (behind 1 s)) b kb sb) → levels_bound a ≤ s.first → (held : List LevelPair) → Context s.first (core_types es) (core_bodies es) held s.types
      → FitsBetween (s.first + 1 + nodes a) (s.first + 1 + nodes a + nodes b) (core_types es) (core_bodies es) (held ++ pairs_of ka) (a ∷ s.types) b e.ty (pairs_of kb)
  body_fits sb e le held c = e.inferred.fits (held ++ pairs_of ka) (under_domain es place s x a (omega arith) le d held c)

  -- Pi1
  proposition_inferred : IsTypeBy es place (under x a (behind 1 s)) b kb None → levels_bound (Pi x a b) ≤ s.first → Inferred es place s (Pi x a b) ((ka ++ kb) ++ []) Prop
  proposition_inferred e within = record {
    rule = RuleType.pi_prop e.inferred.rule e.head;
    parts = all_shaped (next_shaped 1 (next_shaped 0 none_before Part.pi_domain (type_shaped d)) Part.pi_body (type_shaped e));
    fits = λ held c. fits_moved (omega (arith, count_pi x a b)) (sym (ap pairs_of (append-nil (ka ++ kb)) ∙ pairs-append ka kb))
        (fits_proposition s.first (s.first + 1 + nodes a) (s.first + 1 + nodes a + nodes b) (core_types es) (core_bodies es) held s.types c x a d.ty b e.ty (pairs_of ka) (pairs_of kb) (omega arith) (omega arith)
        (domain_fits held c) sa d.head (body_fits None e (omega arith) held c) e.head);
    of_core = λ r w st. of_both (task_on es r) (ka ++ kb) [] (of_both (task_on es r) ka kb (d.inferred.of_core r AType (stands_part st Part.pi_domain)) (e.inferred.of_core r AType (stands_part st Part.pi_body))) (of_none (task_on es r));
    placed = at_both place (ka ++ kb) [] (at_both place ka kb d.inferred.placed e.inferred.placed) (at_none place);
  }

  not_prop : (l : Level) → ◌≡◌ {A = Core} (Univ l) Prop → ⊥
  not_prop l e = cc

  product_rule : (l : Level) → IsTypeBy es place (under x a (behind 1 s)) b kb (Some l) → RuleTypeAt es s (Pi x a b) (Univ (variable_level s.first))
  product_rule l e = RuleType.pi_type e.inferred.rule e.head (not_prop l)

  -- Pi2
  universe_product_inferred : (l : Level) → IsTypeBy es place (under x a (behind 1 s)) b kb (Some l) → levels_bound (Pi x a b) ≤ s.first
      → Inferred es place s (Pi x a b) ((ka ++ kb) ++ (asked_of_sort sa (variable_level s.first) place ++ asked_of_sort (Some l) (variable_level s.first) place)) (Univ (variable_level s.first))
  universe_product_inferred l e within = record {
    rule = product_rule l e;
    parts = all_shaped (next_shaped 1 (next_shaped 0 none_before Part.pi_domain (type_shaped d)) Part.pi_body (type_shaped e));
    fits = λ held c. fits_moved (omega (arith, count_pi x a b)) (sym (pairs_of_former ka kb sa (Some l) (variable_level s.first) place))
        (fits_product s.first (s.first + 1 + nodes a) (s.first + 1 + nodes a + nodes b) (core_types es) (core_bodies es) held s.types c x a d.ty b e.ty (pairs_of ka) (pairs_of kb) (omega arith) (omega arith)
        (domain_fits held c) sa d.head (body_fits (Some l) e (omega arith) held c) l e.head);
    of_core = former_of_core (Pi x a b) a_product (product_rule l e) (λ w. Part.pi_domain) (λ w. Part.pi_body) (Some l) e;
    placed = former_placed (Some l) (variable_level s.first) e;
  }

  -- Sigma
  sigma_type_inferred : (sb : Option Level) → IsTypeBy es place (under x a (behind 1 s)) b kb sb → levels_bound (Sigma x a b) ≤ s.first
      → Inferred es place s (Sigma x a b) ((ka ++ kb) ++ (asked_of_sort sa (variable_level s.first) place ++ asked_of_sort sb (variable_level s.first) place)) (Univ (variable_level s.first))
  sigma_type_inferred sb e within = record {
    rule = RuleType.sigma;
    parts = all_shaped (next_shaped 1 (next_shaped 0 none_before Part.sigma_domain (type_shaped d)) Part.sigma_body (type_shaped e));
    fits = λ held c. fits_moved (omega (arith, count_sigma x a b)) (sym (pairs_of_former ka kb sa sb (variable_level s.first) place))
        (fits_sigma s.first (s.first + 1 + nodes a) (s.first + 1 + nodes a + nodes b) (core_types es) (core_bodies es) held s.types c x a d.ty b e.ty (pairs_of ka) (pairs_of kb) (omega arith) (omega arith)
        (domain_fits held c) sa d.head (body_fits sb e (omega arith) held c) sb e.head);
    of_core = former_of_core (Sigma x a b) a_sigma RuleType.sigma (λ w. Part.sigma_domain) (λ w. Part.sigma_body) sb e;
    placed = former_placed sb (variable_level s.first) e;
  }

module _ (es : List Entry) (place : Place) (s : Site) (x : Binder) (a b : Core) where
  product_by : (ka kb : List Constraint) (sa sb : Option Level) → IsTypeBy es place (behind 1 s) a ka sa → IsTypeBy es place (under x a (behind 1 s)) b kb sb → levels_bound (Pi x a b) ≤ s.first
      → Inferred es place s (Pi x a b) ((ka ++ kb) ++ asked_of_product (record { own = variable_level s.first; domain = sa; body = sb }) place) (product_sort (record { own = variable_level s.first; domain = sa; body = sb }))
  product_by ka kb sa None d e within = proposition_inferred es place s x a b ka kb sa d e within
  product_by ka kb sa (Some l) d e within = universe_product_inferred es place s x a b ka kb sa d l e within

  -- a product whose parts are types
  pub product_inferred : (k : List Constraint) (f : Formed) → IsFormed es place s x a b k f → levels_bound (Pi x a b) ≤ s.first → Inferred es place s (Pi x a b) (k ++ asked_of_product f place) (product_sort f)
  product_inferred k f formed within =
      subst (λ l. Inferred es place s (Pi x a b) (l ++ asked_of_product f place) (product_sort f)) (sym formed.split)
      (subst (λ own. Inferred es place s (Pi x a b) ((formed.of_domain ++ formed.of_body) ++ asked_of_product (record { own = own; domain = f.domain; body = f.body }) place) (product_sort (record { own = own; domain = f.domain; body = f.body }))) (sym formed.own)
      (product_by formed.of_domain formed.of_body f.domain f.body formed.domain formed.body within))

  -- a Sigma type whose parts are types
  pub sigma_inferred : (k : List Constraint) (f : Formed) → IsFormed es place s x a b k f → levels_bound (Sigma x a b) ≤ s.first → Inferred es place s (Sigma x a b) (k ++ asked_of_former f place) (Univ f.own)
  sigma_inferred k f formed within =
      subst (λ l. Inferred es place s (Sigma x a b) (l ++ asked_of_former f place) (Univ f.own)) (sym formed.split)
      (subst (λ own. Inferred es place s (Sigma x a b) ((formed.of_domain ++ formed.of_body) ++ asked_of_former (record { own = own; domain = f.domain; body = f.body }) place) (Univ own)) (sym formed.own)
      (sigma_type_inferred es place s x a b formed.of_domain formed.of_body f.domain formed.domain f.body formed.body within))
