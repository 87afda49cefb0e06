-- The rule pair.
use Rattle.std.proofs.Common.{◌≡◌, ℕ, suc, ◌+◌, ◌≤◌, ◌↔◌, max, List, [], ◌∷◌, ◌++◌, refl, sym, ap, ◌∙◌, subst, Option, Some, arith, All}
use Rattle.lego_base.specs.declared.place.Place.{Place}
use Rattle.lego_term.specs.declared.binder.Binder.{Binder}
use Rattle.lego_term.specs.declared.level.Level.{Level}
use Rattle.lego_term.specs.Levels.{Assignment, LevelPair, SatisfiesAll}
use Rattle.lego_term.specs.Trees.{Core, Sigma, Pair, instantiate}
use Rattle.lego_laws.specs.Entries.{Entry, core_bodies}
use Rattle.lego_laws.specs.RuleTypes.{RuleType, nodes}
use Rattle.lego_laws.specs.Principal.{core_types}
use Rattle.lego_laws.specs.Facing.{Cumulativity}
use Rattle.lego_laws.specs.Places.{Want, Nothing, AType, Stated, Site, behind, under, Part, Stands, IsConstraintOfCore}
use Rattle.lego_laws.specs.Ranges.{levels_bound, pairs_bound, Context, FitsBetween}
use Rattle.lego_laws.proofs.lemmas.inference.InferenceLaws.{fits_pair, fits_by_others, contexts_widen}
use Rattle.lego_laws.proofs.lemmas.inference.Agreeing.{pairs_bound-append}
use Rattle.lego_laws.proofs.lemmas.inference.LevelsWithin.{levels-instantiate}
use Rattle.lego_level.specs.declared.constraint.Constraint.{Constraint}
use Rattle.lego_level.specs.Graphs.{pairs_of}
use Rattle.lego_compare.specs.Answers.{IsDecidedBy}
use Rattle.lego_inference.specs.private.Judging.{Root, task_on, Inferred, IsTypeBy, HasStated}
use Rattle.lego_inference.proofs.PlaceLemmas.{stands_part}
use Rattle.lego_inference.proofs.GatherLemmas.{at_both, of_both}
use Rattle.lego_inference.proofs.ShapeLemmas.{all_shaped, none_before, next_shaped, shaped_stated}
use Rattle.lego_inference.proofs.LeafRules.{fits_moved}
use Rattle.lego_inference.proofs.FormerRules.{pairs-append, type_shaped, under_domain}
use Rattle.lego_inference.proofs.OtherRules.{count_pair, decided_of_core, decided_within}

-- constraints are satisfied together where each list is
front : (v : Assignment) (k l : List LevelPair) → SatisfiesAll v (k ++ l) → SatisfiesAll v k
front v [] l h = tt
front v (c ∷ k) l h = (h.0, front v k l h.1)

back : (v : Assignment) (k l : List LevelPair) → SatisfiesAll v (k ++ l) → SatisfiesAll v l
back v [] l h = h
back v (c ∷ k) l h = back v k l h.1

together : (v : Assignment) (k l : List LevelPair) → SatisfiesAll v k → SatisfiesAll v l → SatisfiesAll v (k ++ l)
together v [] l h i = i
together v (c ∷ k) l h i = (h.0, together v k l h.1 i)

module _ (ka kr km kn k k' : List LevelPair) where
  -- those of the law, and those in the order of the check
  abbrev by_law : List LevelPair
  by_law = ((ka ++ kr) ++ (km ++ kn)) ++ (k ++ k')

  abbrev in_order : List LevelPair
  in_order = (((ka ++ kr) ++ (km ++ k)) ++ kn) ++ k'

  ordered : (v : Assignment) → SatisfiesAll v by_law → SatisfiesAll v in_order
  ordered v h =
      let own = front v ((ka ++ kr) ++ (km ++ kn)) (k ++ k') h in
      let asked = back v ((ka ++ kr) ++ (km ++ kn)) (k ++ k') h in
      let types = front v (ka ++ kr) (km ++ kn) own in
      let terms = back v (ka ++ kr) (km ++ kn) own in
      together v (((ka ++ kr) ++ (km ++ k)) ++ kn) k'
      (together v ((ka ++ kr) ++ (km ++ k)) kn (together v (ka ++ kr) (km ++ k) types (together v km k (front v km kn terms) (front v k k' asked))) (back v km kn terms))
      (back v k k' asked)

  lawful : (v : Assignment) → SatisfiesAll v in_order → SatisfiesAll v by_law
  lawful v h =
      let four = front v (((ka ++ kr) ++ (km ++ k)) ++ kn) k' h in
      let three = front v ((ka ++ kr) ++ (km ++ k)) kn four in
      let types = front v (ka ++ kr) (km ++ k) three in
      let first = back v (ka ++ kr) (km ++ k) three in
      together v ((ka ++ kr) ++ (km ++ kn)) (k ++ k')
      (together v (ka ++ kr) (km ++ kn) types (together v km kn (front v km k first) (back v ((ka ++ kr) ++ (km ++ k)) kn four)))
      (together v k k' (back v km k first) (back v (((ka ++ kr) ++ (km ++ k)) ++ kn) k' h))

  order_within : (n : ℕ) → pairs_bound ka ≤ n → pairs_bound kr ≤ n → pairs_bound km ≤ n → pairs_bound kn ≤ n → pairs_bound k ≤ n → pairs_bound k' ≤ n → pairs_bound in_order ≤ n
  order_within n a b c d e f =
      let g = pairs_bound-append ka kr in
      let h = pairs_bound-append km k in
      let i = pairs_bound-append (ka ++ kr) (km ++ k) in
      let j = pairs_bound-append ((ka ++ kr) ++ (km ++ k)) kn in
      let l = pairs_bound-append (((ka ++ kr) ++ (km ++ k)) ++ kn) k' in
      omega arith

pairs_in_order : (ka kb own more kn more' : List Constraint) → pairs_of ((((ka ++ kb) ++ (own ++ more)) ++ kn) ++ more') ≡ in_order (pairs_of ka) (pairs_of kb) (pairs_of own) (pairs_of kn) (pairs_of more) (pairs_of more')
pairs_in_order ka kb own more kn more' =
    let e = pairs-append (((ka ++ kb) ++ (own ++ more)) ++ kn) more' in
    let f = pairs-append ((ka ++ kb) ++ (own ++ more)) kn in
    let g = pairs-append (ka ++ kb) (own ++ more) in
    let h = pairs-append ka kb in
    let i = pairs-append own more in
    cc

module _ (es : List Entry) (place : Place) (s : Site) (x : Binder) (a b m n : Core) where
  abbrev second_site : Site
  second_site = behind (nodes a + nodes b + nodes m) s

  pair_split : (ka kb own more kn more' : List Constraint) (sa sb : Option Level) (have tn : Core) → levels_bound (Pair x a b m n) ≤ s.first
      → IsTypeBy es place s a ka sa → IsTypeBy es place (under x a s) b kb sb → Inferred es place (behind (nodes a + nodes b) s) m own have → IsDecidedBy Cumulativity (core_bodies es) have a place more
      → Inferred es place second_site n kn tn → IsDecidedBy Cumulativity (core_bodies es) tn (instantiate b m) place more'
      → Inferred es place s (Pair x a b m n) ((((ka ++ kb) ++ (own ++ more)) ++ kn) ++ more') (Sigma x a b)
  pair_split ka kb own more kn more' sa sb have tn within d e f df g dg = record {
    rule = RuleType.pair;
    parts = all_shaped (next_shaped 3 (next_shaped 2 (next_shaped 1 (next_shaped 0 none_before Part.pair_domain (type_shaped d)) Part.pair_body (type_shaped e)) Part.pair_first (shaped_stated f.parts f.rule df.zero)) Part.pair_second (shaped_stated g.parts g.rule dg.zero));
    fits = λ held c. all_fit held c;
    of_core = λ r w st. of_both (task_on es r) (((ka ++ kb) ++ (own ++ more)) ++ kn) more'
        (of_both (task_on es r) ((ka ++ kb) ++ (own ++ more)) kn
        (of_both (task_on es r) (ka ++ kb) (own ++ more) (of_both (task_on es r) ka kb (d.inferred.of_core r AType (stands_part st Part.pair_domain)) (e.inferred.of_core r AType (stands_part st Part.pair_body)))
        (of_both (task_on es r) own more (f.of_core r (Stated a) (stands_part st Part.pair_first)) (decided_of_core f.rule df r (stands_part st Part.pair_first))))
        (g.of_core r (Stated (instantiate b m)) (stands_part st Part.pair_second)))
        (decided_of_core g.rule dg r (stands_part st Part.pair_second));
    placed = at_both place (((ka ++ kb) ++ (own ++ more)) ++ kn) more'
        (at_both place ((ka ++ kb) ++ (own ++ more)) kn (at_both place (ka ++ kb) (own ++ more) (at_both place ka kb d.inferred.placed e.inferred.placed) (at_both place own more f.placed df.placed)) g.placed) dg.placed;
  }
    where
      all_fit : (held : List LevelPair) → Context s.first (core_types es) (core_bodies es) held s.types
          → FitsBetween s.first (s.first + nodes (Pair x a b m n)) (core_types es) (core_bodies es) held s.types (Pair x a b m n) (Sigma x a b) (pairs_of ((((ka ++ kb) ++ (own ++ more)) ++ kn) ++ more'))
      all_fit held c =
          let n₁ : ℕ = s.first + nodes a in
          let end : ℕ = s.first + (nodes a + nodes b + nodes m) + nodes n in
          let n₂ : ℕ = s.first + (nodes a + nodes b) in
          let n₃ : ℕ = s.first + (nodes a + nodes b + nodes m) in
          let fd = d.inferred.fits held c in
          let fe = fits_moved {n₂ = n₂} (omega arith) refl (e.inferred.fits (held ++ pairs_of ka) (under_domain es place s x a (omega arith) (omega arith) d held c)) in
          let ff = fits_moved {n₂ = n₃} (omega arith) refl (f.fits held (contexts_widen s.first n₂ (core_types es) (core_bodies es) held s.types (omega arith) c)) in
          let fg = g.fits held (contexts_widen s.first n₃ (core_types es) (core_bodies es) held s.types (omega arith) c) in
          let big = contexts_widen s.first end (core_types es) (core_bodies es) held s.types (omega arith) c in
          let put = levels-instantiate b m in
          let of_a = fd.pairs_within in
          let of_b = fe.pairs_within in
          let of_m = ff.pairs_within in
          let of_n = fg.pairs_within in
          let have_within = ff.type_within in
          let asked = decided_within es end big.bodies_within (omega arith) (omega arith) df in
          let asked' = decided_within es end big.bodies_within fg.type_within (omega arith) dg in
          let law =
          fits_pair s.first n₁ n₂ n₃ end (core_types es) (core_bodies es) held s.types c x a d.ty b e.ty m have n tn (pairs_of ka) (pairs_of kb) (pairs_of own) (pairs_of kn) (pairs_of more) (pairs_of more')
          (omega arith) (omega arith) (omega arith) (omega arith) fd fe ff fg sa sb d.head e.head asked asked' df.exact dg.exact in
          fits_moved (omega (arith, count_pair x a b m n)) (sym (pairs_in_order ka kb own more kn more'))
          (fits_by_others s.first end (core_types es) (core_bodies es) held s.types (Pair x a b m n) (Sigma x a b) (by_law (pairs_of ka) (pairs_of kb) (pairs_of own) (pairs_of kn) (pairs_of more) (pairs_of more')) (in_order (pairs_of ka) (pairs_of kb) (pairs_of own) (pairs_of kn) (pairs_of more) (pairs_of more')) law
          (order_within (pairs_of ka) (pairs_of kb) (pairs_of own) (pairs_of kn) (pairs_of more) (pairs_of more') end (omega arith) (omega arith) (omega arith) of_n asked asked')
          (λ v. (ordered (pairs_of ka) (pairs_of kb) (pairs_of own) (pairs_of kn) (pairs_of more) (pairs_of more') v, lawful (pairs_of ka) (pairs_of kb) (pairs_of own) (pairs_of kn) (pairs_of more) (pairs_of more') v)))

  pub pair_inferred : (ka kb kf kn more' : List Constraint) (sa sb : Option Level) (tn : Core) → levels_bound (Pair x a b m n) ≤ s.first
      → IsTypeBy es place s a ka sa → IsTypeBy es place (under x a s) b kb sb → HasStated es place (behind (nodes a + nodes b) s) m kf a
      → Inferred es place second_site n kn tn → IsDecidedBy Cumulativity (core_bodies es) tn (instantiate b m) place more'
      → Inferred es place s (Pair x a b m n) ((((ka ++ kb) ++ kf) ++ kn) ++ more') (Sigma x a b)
  pair_inferred ka kb kf kn more' sa sb tn within d e h g dg =
      subst (λ z. Inferred es place s (Pair x a b m n) ((((ka ++ kb) ++ z) ++ kn) ++ more') (Sigma x a b)) (sym h.split)
      (pair_split ka kb h.own h.more kn more' sa sb h.have tn within d e h.inferred h.decided g dg)
