-- Constraints of products, Sigma types and functions from those of their parts.
use Rattle.std.proofs.Common.{◌≡◌, ℕ, suc, ◌+◌, ◌≤◌, ◌<◌, List, [], ◌∷◌, ◌++◌, map, get_or, inl, inr, ⊎_elim, refl, sym, ap, ◌∙◌, arith, Option, Some}
use Rattle.std.proofs.lemmas.Bool.{cases_lt}
use Rattle.lego_term.specs.declared.binder.Binder.{Binder}
use Rattle.lego_term.specs.declared.level.Level.{Level}
use Rattle.lego_term.specs.Levels.{Assignment, level_value, variable_level, LevelPair, SatisfiesAll}
use Rattle.lego_term.specs.Trees.{Core, Term, Prop, Univ, Pi, Lam, Sigma, at}
use Rattle.lego_term.specs.Steps.{Converts}
use Rattle.lego_term.specs.Below.{Below}
use Rattle.lego_term.specs.Sequences.{HeadForm}
use Rattle.lego_laws.specs.Parallel.{TermBodies, CoreBodies, bodies_at}
use Rattle.lego_laws.specs.Cumulativity.{ByForm}
use Rattle.lego_laws.specs.Derivations.{Derives, d_prop, d_univ, d_cum, d_pi, d_pi_prop, d_lam, d_sigma}
use Rattle.lego_laws.specs.Ranges.{levels_bound, pairs_bound, Agree, Bounded, GeneratedUpTo, Context, Solution, FitsBetween, sort_term, sort_at_most}
use Rattle.lego_laws.proofs.lemmas.reduction.Below.{under-below, universe_prop}
use Rattle.lego_laws.proofs.lemmas.reduction.Valued.{closed_valued, head_form_converts}
use Rattle.lego_laws.proofs.lemmas.inference.Bounded.{generation_up}
use Rattle.lego_laws.proofs.lemmas.inference.Agreeing.{narrower, at_agree, satisfies_agree, bodies_agree, bounded_agree, moved, locals_agree, pairs_bound-append, agree_both, put_level, put_agree, put_here}
use Rattle.lego_laws.proofs.lemmas.inference.Satisfying.{satisfies_append, satisfies_front, satisfies_back}
use Rattle.lego_laws.proofs.lemmas.inference.Solving.{Solved, one_solved, then_solved, next, below_with, head_within, sort_sound, sort_least, sort_levels, sort_holds, sort_held}

-- a derivation at a greater universe
climb_to : {c b : TermBodies} {g : List Term} {a : Term} {k : ℕ} (l : ℕ) → k ≤ l → Derives c b g a (Univ k) → Derives c b g a (Univ l)
climb_to l le d = d_cum d d_univ (under-below (ByForm.universes le))

-- a binder's parts: the domain, and the body under it
module _ (n₀ m₀ n₁ n₂ : ℕ) (c b : CoreBodies) (held : List LevelPair) (g : List Core) (x : Context n₀ c b held g) (le₀ : n₀ ≤ m₀) (a ta r tr : Core) (ka kr : List LevelPair) (la : levels_bound a ≤ n₀) (lr : levels_bound r ≤ n₀) (fa : FitsBetween m₀ n₁ c b held g a ta ka) (fr : FitsBetween n₁ n₂ c b (held ++ ka) (a ∷ g) r tr kr) where
  pub two : (v : Assignment) → SatisfiesAll v held → (t : ℕ) (p q : Term) → Bounded t (bodies_at v c) (bodies_at v b) (map (at v) g) (at v a) p → Bounded t (bodies_at v c) (bodies_at v b) (at v a ∷ map (at v) g) (at v r) q → Solved m₀ v b (ka ++ kr) ((ta, p) ∷ (tr, q) ∷ []) t
  two v h t p q d e =
      let s = fa.principal v h t p d in
      let lg = x.locals_within in
      let near = narrower le₀ s.agree in
      let hw = satisfies_append s.w held ka (satisfies_agree v s.w held (narrower x.held_within near) h) s.satisfies in
      then_solved m₀ n₁ v b ka kr ((ta, p) ∷ []) ((tr, q) ∷ []) t fa.grows (λ k u o. let w = x.bodies_within k u o in omega arith) fa.pairs_within (omega (arith, fa.type_within)) (one_solved s) (one_solved (next x v s.w near (a ∷ g) (omega arith) lr fr hw t q e))

  pairs_both : pairs_bound (ka ++ kr) ≤ n₂
  pairs_both = let w = fr.grows in omega (arith, pairs_bound-append ka kr, fa.pairs_within, fr.pairs_within)

-- a function
module _ (n₀ n₁ n₂ : ℕ) (c b : CoreBodies) (held : List LevelPair) (g : List Core) (x : Context n₀ c b held g) (y : Binder) (a ta r tr : Core) (ka kr : List LevelPair) (la : levels_bound a ≤ n₀) (lr : levels_bound r ≤ n₀) (fa : FitsBetween n₀ n₁ c b held g a ta ka) (fr : FitsBetween n₁ n₂ c b (held ++ ka) (a ∷ g) r tr kr) where
  pub lam_fits : (s : Option Level) → HeadForm b ta (sort_term s) → FitsBetween n₀ n₂ c b held g (Lam y a r) (Pi y a tr) (ka ++ kr)
  lam_fits s ha =
      let u₁ = fa.grows in
      let u₂ = fr.grows in
      let both = two n₀ n₀ n₁ n₂ c b held g x (omega arith) a ta r tr ka kr la lr fa fr in
      record {
        grows = omega arith;
        type_within = omega (arith, fr.type_within);
        pairs_within = pairs_both n₀ n₀ n₁ n₂ c b held g x (omega arith) a ta r tr ka kr la lr fa fr;
        sound = λ v h k.
            let hk = satisfies_front v ka kr k in
            d_lam (sort_sound (bodies_at v c) b v (map (at v) g) (at v a) ta s ha (fa.sound v h hk)) (fr.sound v (satisfies_append v held ka h hk) (satisfies_back v ka kr k));
        principal = λ v h t p d.
            let z = generation_up d in
            let w = both v h t (Univ z.0) z.1 z.2 z.3 in
            let e = at_agree v w.w a (narrower la w.agree) in
            record { w = w.w; agree = w.agree; satisfies = w.satisfies; below = Below.chain (below_with refl (ap (λ y. Pi tt y (at w.w tr)) e) refl (Below.pi Converts.same w.below.1.0)) z.4; small = w.small };
      }

-- a product or a Sigma type: n₀ is its own level variable
module _ (n₀ n₁ n₂ : ℕ) (c b : CoreBodies) (held : List LevelPair) (g : List Core) (x : Context n₀ c b held g) (y : Binder) (a ta r tr : Core) (ka kr : List LevelPair) (la : levels_bound a ≤ n₀) (lr : levels_bound r ≤ n₀) (fa : FitsBetween (suc n₀) n₁ c b held g a ta ka) (fr : FitsBetween n₁ n₂ c b (held ++ ka) (a ∷ g) r tr kr) where
  -- the parts, with a value put for n₀ before
  record Set (v : Assignment) (j t : ℕ) (p q : Term) : Type 0 where
    z : Solved (suc n₀) (put_level n₀ j v) b (ka ++ kr) ((ta, p) ∷ (tr, q) ∷ []) t
    near : Agree n₀ v z.w
    value : get_or z.w n₀ 0 ≡ j
    bodies : bodies_at v b ≡ bodies_at z.w b

  with_value : (v : Assignment) → SatisfiesAll v held → (j t : ℕ) (p q : Term) → Bounded t (bodies_at v c) (bodies_at v b) (map (at v) g) (at v a) p → Bounded t (bodies_at v c) (bodies_at v b) (at v a ∷ map (at v) g) (at v r) q → Set v j t p q
  with_value v h j t p q d e =
      let v' = put_level n₀ j v in
      let e' = put_agree n₀ j v in
      let h' = satisfies_agree v v' held (narrower x.held_within e') h in
      let d' = bounded_agree x v v' e' t a p la d in
      let lg = x.locals_within in
      let r' = moved (bodies_agree v v' n₀ c x.types_within e') (bodies_agree v v' n₀ b x.bodies_within e') (locals_agree v v' (a ∷ g) (narrower (omega arith) e')) (at_agree v v' r (narrower lr e')) e in
      let s = two n₀ (suc n₀) n₁ n₂ c b held g x (omega arith) a ta r tr ka kr la lr fa fr v' h' t p q d' r' in
      let far = agree_both (omega arith) e' s.agree in
      record { z = s; near = far; value = sym (s.agree.same n₀ (omega arith)) ∙ put_here n₀ j v; bodies = bodies_agree v s.w n₀ b x.bodies_within far }

  small_set : {v : Assignment} {j t : ℕ} {p q : Term} → j ≤ t → (s : Set v j t p q) → (u : ℕ) → n₀ ≤ u → get_or s.z.w u 0 ≤ t
  small_set {j = j} {t = t} le s u lo =
      ⊎_elim (λ (l : n₀ < u). s.z.small u l) (λ (l : u ≤ n₀). let e : u ≡ n₀ = omega arith in let k = s.value in rw e (omega arith)) (cases_lt n₀ u)

  -- a new universe above both sorts
  abbrev pub k_both : Option Level → Option Level → List LevelPair
  k_both s s' = (ka ++ kr) ++ (sort_at_most s (variable_level n₀) ++ sort_at_most s' (variable_level n₀))

  below_n₂ : n₀ ≤ n₂
  below_n₂ = let u₁ = fa.grows in let u₂ = fr.grows in omega arith

  sorts_within : (s : Option Level) (f : Core) → levels_bound f ≤ n₂ → HeadForm b f (sort_term s) → levels_bound (sort_term s) ≤ n₂
  sorts_within s f l h = head_within (λ k t e. let y = x.bodies_within k t e in let z = below_n₂ in omega arith) l h

  both_within : (s s' : Option Level) → HeadForm b ta (sort_term s) → HeadForm b tr (sort_term s') → pairs_bound (k_both s s') ≤ n₂
  both_within s s' h h' =
      let u₁ = fa.grows in
      let u₂ = fr.grows in
      let l = sorts_within s ta (omega (arith, fa.type_within)) h in
      let l' = sorts_within s' tr fr.type_within h' in
      let m = sort_levels s (variable_level n₀) in
      let m' = sort_levels s' (variable_level n₀) in
      omega (arith, pairs_bound-append (ka ++ kr) (sort_at_most s (variable_level n₀) ++ sort_at_most s' (variable_level n₀)), pairs_bound-append (sort_at_most s (variable_level n₀)) (sort_at_most s' (variable_level n₀)), pairs_bound-append ka kr, fa.pairs_within, fr.pairs_within)

  new_universe : (s s' : Option Level) → HeadForm b ta (sort_term s) → HeadForm b tr (sort_term s') → (v : Assignment) (t j : ℕ) (p : Term) → j ≤ t → Set v j t (Univ j) (Univ j) → Below (bodies_at v b) (Univ j) p → Solution n₀ v b (k_both s s') (Univ (variable_level n₀)) p t
  new_universe s s' ha hr v t j p le z q =
      let w = z.z.w in
      let bc = closed_valued (level_value v) b x.closed_bodies in
      let eb = sym z.bodies in
      let e' = put_agree n₀ j v in
      let ev = sym (bodies_agree v (put_level n₀ j v) n₀ b x.bodies_within e') in
      let l = sort_least b (bodies_at v b) w eb bc ta s j ha (below_with ev refl refl z.z.below.0) in
      let l' = sort_least b (bodies_at v b) w eb bc tr s' j hr (below_with ev refl refl z.z.below.1.0) in
      let here = z.value in
      let is : j ≡ get_or w n₀ 0 + 0 = omega arith in
      record {
        w = w;
        agree = z.near;
        satisfies = satisfies_append w (ka ++ kr) (sort_at_most s (variable_level n₀) ++ sort_at_most s' (variable_level n₀)) z.z.satisfies (satisfies_append w (sort_at_most s (variable_level n₀)) (sort_at_most s' (variable_level n₀)) (sort_holds w s (variable_level n₀) (omega arith)) (sort_holds w s' (variable_level n₀) (omega arith)));
        below = below_with refl (ap Univ is) refl q;
        small = small_set le z;
      }

  -- the parts at the new universe
  new_sound : (s s' : Option Level) → HeadForm b ta (sort_term s) → HeadForm b tr (sort_term s') → (v : Assignment) → SatisfiesAll v held → SatisfiesAll v (k_both s s') → Derives (bodies_at v c) (bodies_at v b) (map (at v) g) (at v a) (Univ (get_or v n₀ 0 + 0)) × Derives (bodies_at v c) (bodies_at v b) (at v a ∷ map (at v) g) (at v r) (Univ (get_or v n₀ 0 + 0))
  new_sound s s' ha hr v h k =
      let sb = sort_at_most s (variable_level n₀) in
      let sb' = sort_at_most s' (variable_level n₀) in
      let k₁ = satisfies_front v (ka ++ kr) (sb ++ sb') k in
      let k₂ = satisfies_back v (ka ++ kr) (sb ++ sb') k in
      let hk = satisfies_front v ka kr k₁ in
      let c' = bodies_at v c in
      let l = sort_held v s (variable_level n₀) (satisfies_front v sb sb' k₂) in
      let l' = sort_held v s' (variable_level n₀) (satisfies_back v sb sb' k₂) in (
        climb_to (get_or v n₀ 0 + 0) l (sort_sound c' b v (map (at v) g) (at v a) ta s ha (fa.sound v h hk)),
        climb_to (get_or v n₀ 0 + 0) l' (sort_sound c' b v (at v a ∷ map (at v) g) (at v r) tr s' hr (fr.sound v (satisfies_append v held ka h hk) (satisfies_back v ka kr k₁))),
      )

  pub sigma_fits : (s s' : Option Level) → HeadForm b ta (sort_term s) → HeadForm b tr (sort_term s') → FitsBetween n₀ n₂ c b held g (Sigma y a r) (Univ (variable_level n₀)) (k_both s s')
  sigma_fits s s' ha hr =
      let u₁ = fa.grows in
      let u₂ = fr.grows in
      record {
        grows = omega arith;
        type_within = omega arith;
        pairs_within = both_within s s' ha hr;
        sound = λ v h k. let d = new_sound s s' ha hr v h k in d_sigma d.0 d.1;
        principal = λ v h t p d.
            let z = generation_up d in
            new_universe s s' ha hr v t z.0 p z.1 (with_value v h z.0 t (Univ z.0) (Univ z.0) z.2 z.3) z.4;
      }

  -- a product of propositions, and any other
  pub pi_prop_fits : (s : Option Level) → HeadForm b ta (sort_term s) → HeadForm b tr Prop → FitsBetween n₀ n₂ c b held g (Pi y a r) Prop (ka ++ kr)
  pi_prop_fits s ha hr =
      let u₁ = fa.grows in
      let u₂ = fr.grows in
      record {
        grows = omega arith;
        type_within = omega arith;
        pairs_within = pairs_both n₀ (suc n₀) n₁ n₂ c b held g x (omega arith) a ta r tr ka kr la lr fa fr;
        sound = λ v h k.
            let hk = satisfies_front v ka kr k in
            d_pi_prop (sort_sound (bodies_at v c) b v (map (at v) g) (at v a) ta s ha (fa.sound v h hk)) (d_cum (fr.sound v (satisfies_append v held ka h hk) (satisfies_back v ka kr k)) d_prop (Below.converts (head_form_converts (level_value v) hr)));
        principal = λ v h t p d. pi_prop_case v h t p (generation_up d);
      }
    where
      pi_prop_case : (v : Assignment) → SatisfiesAll v held → (t : ℕ) (p : Term) → GeneratedUpTo t (bodies_at v c) (bodies_at v b) (map (at v) g) (Pi tt (at v a) (at v r)) p → Solution n₀ v b (ka ++ kr) Prop p t
      pi_prop_case v h t p (j, d, inl (e, q)) = let z = with_value v h 0 t (Univ j) Prop d e in record { w = z.z.w; agree = z.near; satisfies = z.z.satisfies; below = q; small = small_set (omega arith) z }
      pi_prop_case v h t p (j, d, inr (le, e, q)) = let z = with_value v h 0 t (Univ j) (Univ j) d e in record { w = z.z.w; agree = z.near; satisfies = z.z.satisfies; below = Below.chain (under-below ByForm.prop) q; small = small_set (omega arith) z }

  pub pi_fits : (s : Option Level) (l : Level) → HeadForm b ta (sort_term s) → HeadForm b tr (Univ l) → FitsBetween n₀ n₂ c b held g (Pi y a r) (Univ (variable_level n₀)) (k_both s (Some l))
  pi_fits s l ha hr =
      let u₁ = fa.grows in
      let u₂ = fr.grows in
      record {
        grows = omega arith;
        type_within = omega arith;
        pairs_within = both_within s (Some l) ha hr;
        sound = λ v h k. let d = new_sound s (Some l) ha hr v h k in d_pi d.0 d.1;
        principal = λ v h t p d. pi_case v h t p (generation_up d);
      }
    where
      pi_case : (v : Assignment) → SatisfiesAll v held → (t : ℕ) (p : Term) → GeneratedUpTo t (bodies_at v c) (bodies_at v b) (map (at v) g) (Pi tt (at v a) (at v r)) p → Solution n₀ v b (k_both s (Some l)) (Univ (variable_level n₀)) p t
      pi_case v h t p (j, d, inl (e, q)) =
          let z = with_value v h 0 t (Univ j) Prop d e in
          let e' = put_agree n₀ 0 v in
          let ev = sym (bodies_agree v (put_level n₀ 0 v) n₀ b x.bodies_within e') in
          absurd (universe_prop (bodies_at z.z.w b) (closed_valued (level_value z.z.w) b x.closed_bodies) (level_value z.z.w l) (Below.chain (Below.converts (Converts.back (head_form_converts (level_value z.z.w) hr))) (below_with (ev ∙ z.bodies) refl refl z.z.below.1.0)))
      pi_case v h t p (j, d, inr (le, e, q)) = new_universe s (Some l) ha hr v t j p le (with_value v h j t (Univ j) (Univ j) d e) q
