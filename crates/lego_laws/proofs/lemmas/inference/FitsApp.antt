-- Constraints of an application and of projections from those of their parts.
use Rattle.std.proofs.Common.{◌≡◌, ℕ, ◌≤◌, List, ◌++◌, map, get_or, ◌↔◌, refl, sym, ap, ◌∙◌, arith}
use Rattle.lego_term.specs.declared.binder.Binder.{Binder}
use Rattle.lego_term.specs.declared.binder.Mark.{Mark}
use Rattle.lego_term.specs.Levels.{Assignment, level_value, LevelPair, SatisfiesAll}
use Rattle.lego_term.specs.Trees.{Core, Term, Pi, App, Sigma, Fst, Snd, instantiate, at}
use Rattle.lego_term.specs.Steps.{Converts}
use Rattle.lego_term.specs.Below.{Below}
use Rattle.lego_term.specs.Sequences.{HeadForm}
use Rattle.lego_laws.specs.Parallel.{CoreBodies, bodies_at}
use Rattle.lego_laws.specs.Derivations.{Derives, d_app, d_cum, d_fst, d_snd}
use Rattle.lego_laws.specs.Ranges.{levels_bound, pairs_bound, Agree, Bounded, Context, Solution, FitsBetween}
use Rattle.lego_laws.proofs.lemmas.reduction.Below.{pi_inverts, sigma_inverts}
use Rattle.lego_laws.proofs.lemmas.reduction.Mapping.{map-instantiate}
use Rattle.lego_laws.proofs.lemmas.reduction.Valued.{closed_valued, head_form_converts}
use Rattle.lego_laws.proofs.lemmas.inference.Bounded.{generation_up}
use Rattle.lego_laws.proofs.lemmas.typing.Inversion.{generation, type_correct}
use Rattle.lego_laws.proofs.lemmas.typing.TypedSteps.{below-instantiate}
use Rattle.lego_laws.proofs.lemmas.inference.LevelsWithin.{levels-instantiate}
use Rattle.lego_laws.proofs.lemmas.inference.Agreeing.{narrower, at_agree, satisfies_agree, bodies_agree, bounded_agree, pairs_bound-append, agree_both}
use Rattle.lego_laws.proofs.lemmas.inference.Satisfying.{satisfies_append, satisfies_front, satisfies_back}
use Rattle.lego_laws.proofs.lemmas.inference.Solving.{runs_keep, head_run, head_within, below_with, small_both}

pub at-instantiate : (v : Assignment) (m n : Core) → at v (instantiate m n) ≡ instantiate (at v m) (at v n)
at-instantiate v m n = map-instantiate (λ x. tt) (λ x. tt) (level_value v) m n

-- an argument against the domain of a function's type
module _ (n₀ n₁ n₂ : ℕ) (c b : CoreBodies) (held : List LevelPair) (g : List Core) (x : Context n₀ c b held g) (y : Binder) (m n f a r q : Core) (k₁ k₂ : List LevelPair) (ln : levels_bound n ≤ n₀) (fm : FitsBetween n₀ n₁ c b held g m f k₁) (head : HeadForm b f (Pi y a r)) (fn : FitsBetween n₁ n₂ c b held g n q k₂) where
  parts_within : levels_bound (Pi y a r) ≤ n₁
  parts_within = head_within (λ k t e. let h = x.bodies_within k t e in let y = fm.grows in omega arith) fm.type_within head

  -- an assignment at which both parts fit, and the argument's type is below the domain
  pub record Met (v : Assignment) (t : ℕ) (z : Term) : Type 0 where
    pub w : Assignment
    pub agree : Agree n₀ v w
    pub function_fits : SatisfiesAll w k₁
    pub argument_fits : SatisfiesAll w k₂
    pub below_domain : Below (bodies_at w b) (at w q) (at w a)
    pub below_codomain : Below (bodies_at v b) (at w r) z
    pub small : (u : ℕ) → n₀ ≤ u → get_or w u 0 ≤ t

  met_by : (v : Assignment) (t : ℕ) (z₀ z₁ : Term) (s₁ : Solution n₀ v b k₁ f (Pi tt z₀ z₁) t) → Solution n₁ s₁.w b k₂ q z₀ t → Met v t z₁
  met_by v t z₀ z₁ s₁ s₂ =
      let wide = fm.grows in
      let within = parts_within in
      let far = agree_both wide s₁.agree s₂.agree in
      let e₁ = bodies_agree v s₁.w n₀ b x.bodies_within s₁.agree in
      let e₂ = bodies_agree v s₂.w n₀ b x.bodies_within far in
      let ea = at_agree s₁.w s₂.w a (narrower (omega arith) s₂.agree) in
      let er = at_agree s₁.w s₂.w r (narrower (omega arith) s₂.agree) in
      let from_head = below_with (sym e₁) refl refl (Below.converts (Converts.back (head_form_converts (level_value s₁.w) head))) in
      let inv = pi_inverts (bodies_at v b) (closed_valued (level_value v) b x.closed_bodies) (at s₁.w a) (at s₁.w r) z₀ z₁ (Below.chain from_head s₁.below) in
      record {
        w = s₂.w;
        agree = far;
        function_fits = satisfies_agree s₁.w s₂.w k₁ (narrower fm.pairs_within s₂.agree) s₁.satisfies;
        argument_fits = s₂.satisfies;
        below_domain = below_with e₂ refl ea (Below.chain (below_with (sym e₁) refl refl s₂.below) (Below.converts (Converts.back inv.0)));
        below_codomain = below_with refl er refl inv.1;
        small = small_both n₀ n₁ t s₁.w s₂.w s₂.agree s₁.small s₂.small;
      }

  pub meets : (v : Assignment) → SatisfiesAll v held → (t : ℕ) (z₀ z₁ : Term) → Bounded t (bodies_at v c) (bodies_at v b) (map (at v) g) (at v m) (Pi tt z₀ z₁) → Bounded t (bodies_at v c) (bodies_at v b) (map (at v) g) (at v n) z₀ → Met v t z₁
  meets v h t z₀ z₁ d e =
      let s₁ = fm.principal v h t (Pi tt z₀ z₁) d in
      met_by v t z₀ z₁ s₁ (fn.principal s₁.w (satisfies_agree v s₁.w held (narrower x.held_within s₁.agree) h) t z₀ (bounded_agree x v s₁.w s₁.agree t n z₀ ln e))

module _ (n₀ n₁ n₂ : ℕ) (c b : CoreBodies) (held : List LevelPair) (g : List Core) (x : Context n₀ c b held g) (mark : Mark) (y : Binder) (m n f a r q : Core) (k₁ k₂ k₃ : List LevelPair) (lm : levels_bound m ≤ n₀) (ln : levels_bound n ≤ n₀) (fm : FitsBetween n₀ n₁ c b held g m f k₁) (head : HeadForm b f (Pi y a r)) (fn : FitsBetween n₁ n₂ c b held g n q k₂) (l₃ : pairs_bound k₃ ≤ n₂) (ok : (v : Assignment) → SatisfiesAll v k₃ ↔ Below (bodies_at v b) (at v q) (at v a)) where
  app_sound : (v : Assignment) → SatisfiesAll v held → SatisfiesAll v (k₁ ++ (k₂ ++ k₃)) → Derives (bodies_at v c) (bodies_at v b) (map (at v) g) (at v (App mark m n)) (at v (instantiate r n))
  app_sound v h k =
      let c' = bodies_at v c in
      let b' = bodies_at v b in
      let tc = closed_valued (level_value v) c x.closed_types in
      let bc = closed_valued (level_value v) b x.closed_bodies in
      let y = x.valid v h in
      let z = x.locals v h in
      let dm = fm.sound v h (satisfies_front v k₁ (k₂ ++ k₃) k) in
      let rest = satisfies_back v k₁ (k₂ ++ k₃) k in
      let dn = fn.sound v h (satisfies_front v k₂ k₃ rest) in
      let lower = (ok v).0 (satisfies_back v k₂ k₃ rest) in
      let tf = type_correct c' b' tc bc y dm z in
      let tp = runs_keep c' b' tc bc y z (head_run v head) tf.1 in
      let dp = d_cum dm tp (Below.converts (head_form_converts (level_value v) head)) in
      let da = generation tp in
      rw at-instantiate (d_app dp (d_cum dn da.1 lower))

  by_met : (v : Assignment) → SatisfiesAll v held → (t : ℕ) (z p : Term) → Met n₀ n₁ n₂ c b held g x y m n f a r q k₁ k₂ ln fm head fn v t z → Below (bodies_at v b) (instantiate z (at v n)) p → Solution n₀ v b (k₁ ++ (k₂ ++ k₃)) (instantiate r n) p t
  by_met v h t z p s le =
      let inst = below-instantiate (bodies_at v c) (bodies_at v b) (closed_valued (level_value v) c x.closed_types) (closed_valued (level_value v) b x.closed_bodies) (x.valid v h) (at v n) s.below_codomain in
      let type_is = ap (instantiate (at s.w r)) (at_agree v s.w n (narrower ln s.agree)) ∙ sym (at-instantiate s.w r n) in
      record {
        w = s.w;
        agree = s.agree;
        satisfies = satisfies_append s.w k₁ (k₂ ++ k₃) s.function_fits (satisfies_append s.w k₂ k₃ s.argument_fits ((ok s.w).1 s.below_domain));
        below = Below.chain (below_with refl type_is refl inst) le;
        small = s.small;
      }

  app_principal : (v : Assignment) → SatisfiesAll v held → (t : ℕ) (p : Term) → Bounded t (bodies_at v c) (bodies_at v b) (map (at v) g) (at v (App mark m n)) p → Solution n₀ v b (k₁ ++ (k₂ ++ k₃)) (instantiate r n) p t
  app_principal v h t p d =
      let z = generation_up d in
      by_met v h t z.1 p (meets n₀ n₁ n₂ c b held g x y m n f a r q k₁ k₂ ln fm head fn v h t z.0 z.1 z.2 z.3) z.4

  pub app_fits : FitsBetween n₀ n₂ c b held g (App mark m n) (instantiate r n) (k₁ ++ (k₂ ++ k₃))
  app_fits =
      let w₁ = fm.grows in
      let w₂ = fn.grows in
      let pw = parts_within n₀ n₁ n₂ c b held g x y m n f a r q k₁ k₂ ln fm head fn in
      record {
        grows = omega arith;
        type_within = omega (arith, levels-instantiate r n);
        pairs_within = omega (arith, pairs_bound-append k₁ (k₂ ++ k₃), pairs_bound-append k₂ k₃, fm.pairs_within, fn.pairs_within);
        sound = app_sound;
        principal = app_principal;
      }

-- the parts of a pair
module _ (n₀ n₁ : ℕ) (c b : CoreBodies) (held : List LevelPair) (g : List Core) (x : Context n₀ c b held g) (y : Binder) (m f a r : Core) (k : List LevelPair) (lm : levels_bound m ≤ n₀) (fm : FitsBetween n₀ n₁ c b held g m f k) (head : HeadForm b f (Sigma y a r)) where
  sigma_within : levels_bound (Sigma y a r) ≤ n₁
  sigma_within = head_within (λ k t e. let h = x.bodies_within k t e in let y = fm.grows in omega arith) fm.type_within head

  sigma_typed : (v : Assignment) → SatisfiesAll v held → SatisfiesAll v k → Derives (bodies_at v c) (bodies_at v b) (map (at v) g) (at v m) (Sigma tt (at v a) (at v r))
  sigma_typed v h s =
      let tc = closed_valued (level_value v) c x.closed_types in
      let bc = closed_valued (level_value v) b x.closed_bodies in
      let d = fm.sound v h s in
      let ty = type_correct (bodies_at v c) (bodies_at v b) tc bc (x.valid v h) d (x.locals v h) in
      d_cum d (runs_keep (bodies_at v c) (bodies_at v b) tc bc (x.valid v h) (x.locals v h) (head_run v head) ty.1) (Below.converts (head_form_converts (level_value v) head))

  sigma_least : (v : Assignment) (w : Assignment) → Agree n₀ v w → (a' r' : Term) → Below (bodies_at v b) (at w f) (Sigma tt a' r') → Below (bodies_at v b) (at w a) a' × Below (bodies_at v b) (at w r) r'
  sigma_least v w e a' r' q =
      let run = Below.converts (Converts.back (head_form_converts (level_value w) head)) in
      sigma_inverts (bodies_at v b) (closed_valued (level_value v) b x.closed_bodies) (at w a) (at w r) a' r' (Below.chain (below_with (sym (bodies_agree v w n₀ b x.bodies_within e)) refl refl run) q)

  pub fst_fits : FitsBetween n₀ n₁ c b held g (Fst m) a k
  fst_fits =
      let w = sigma_within in
      record {
        grows = fm.grows;
        type_within = omega arith;
        pairs_within = fm.pairs_within;
        sound = λ v h s. d_fst (sigma_typed v h s);
        principal = λ v h t p d.
            let z = generation_up d in
            let s = fm.principal v h t (Sigma tt z.0 z.1) z.2 in
            record { w = s.w; agree = s.agree; satisfies = s.satisfies; below = Below.chain (sigma_least v s.w s.agree z.0 z.1 s.below).0 z.3; small = s.small };
      }

  pub snd_fits : FitsBetween n₀ n₁ c b held g (Snd m) (instantiate r (Fst m)) k
  snd_fits =
      let w = sigma_within in
      let gr = fm.grows in
      record {
        grows = fm.grows;
        type_within = omega (arith, levels-instantiate r (Fst m));
        pairs_within = fm.pairs_within;
        sound = λ v h s. rw at-instantiate (d_snd (sigma_typed v h s));
        principal = λ v h t p d.
            let z = generation_up d in
            let s = fm.principal v h t (Sigma tt z.0 z.1) z.2 in
            let q = (sigma_least v s.w s.agree z.0 z.1 s.below).1 in
            let inst = below-instantiate (bodies_at v c) (bodies_at v b) (closed_valued (level_value v) c x.closed_types) (closed_valued (level_value v) b x.closed_bodies) (x.valid v h) (Fst (at v m)) q in
            let same : instantiate (at s.w r) (Fst (at v m)) ≡ at s.w (instantiate r (Fst m)) = ap (λ y. instantiate (at s.w r) (Fst y)) (at_agree v s.w m (narrower lm s.agree)) ∙ sym (at-instantiate s.w r (Fst m)) in
            record { w = s.w; agree = s.agree; satisfies = s.satisfies; below = Below.chain (below_with refl same refl inst) z.3; small = s.small };
      }
