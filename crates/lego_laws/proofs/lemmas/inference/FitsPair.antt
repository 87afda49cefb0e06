-- Constraints of a pair, and of a term against a wanted type.
use Rattle.std.proofs.Common.{ℕ, ◌≤◌, List, [], ◌∷◌, ◌++◌, map, get_or, ◌↔◌, refl, sym, ap₂, ◌∙◌, arith, Option}
use Rattle.lego_term.specs.declared.binder.Binder.{Binder}
use Rattle.lego_term.specs.declared.level.Level.{Level}
use Rattle.lego_term.specs.Levels.{Assignment, level_value, LevelPair, SatisfiesAll}
use Rattle.lego_term.specs.Trees.{Core, Term, Univ, Sigma, Pair, instantiate, at}
use Rattle.lego_term.specs.Steps.{Converts}
use Rattle.lego_term.specs.Below.{Below}
use Rattle.lego_term.specs.Sequences.{HeadForm}
use Rattle.lego_laws.specs.Parallel.{CoreBodies, bodies_at}
use Rattle.lego_laws.specs.Derivations.{Derives, d_cum, d_pair}
use Rattle.lego_laws.specs.Ranges.{levels_bound, pairs_bound, Agree, Bounded, Context, Solution, FitsBetween, FitsWantedBetween, FitsWrittenBetween, sort_term}
use Rattle.lego_laws.proofs.lemmas.reduction.Valued.{closed_valued}
use Rattle.lego_laws.proofs.lemmas.inference.Bounded.{generation_up}
use Rattle.lego_laws.proofs.lemmas.typing.Renaming.{d-instantiate}
use Rattle.lego_laws.proofs.lemmas.inference.Agreeing.{narrower, at_agree, satisfies_agree, bodies_agree, pairs_bound-append, agree_both}
use Rattle.lego_laws.proofs.lemmas.inference.Satisfying.{satisfies_append, satisfies_front, satisfies_back}
use Rattle.lego_laws.proofs.lemmas.inference.Solving.{below_with, one_solved, then_solved, next, sort_value, sort_sound}
use Rattle.lego_laws.proofs.lemmas.inference.FitsBinder.{two}
use Rattle.lego_laws.proofs.lemmas.inference.FitsApp.{at-instantiate}

pub wanted_fits : (n₀ n₁ : ℕ) (c b : CoreBodies) (held : List LevelPair) (g : List Core) → Context n₀ c b held g → (m f a : Core) (k k' : List LevelPair) → levels_bound a ≤ n₀ → FitsBetween n₀ n₁ c b held g m f k → pairs_bound k' ≤ n₁ → ((v : Assignment) → SatisfiesAll v held → (j : ℕ) × Derives (bodies_at v c) (bodies_at v b) (map (at v) g) (at v a) (Univ j)) → ((v : Assignment) → SatisfiesAll v k' ↔ Below (bodies_at v b) (at v f) (at v a)) → FitsWantedBetween n₀ n₁ c b held g m a (k ++ k')
wanted_fits n₀ n₁ c b held g x m f a k k' la fm lk typed ok =
    record {
      grows = fm.grows;
      pairs_within = omega (arith, pairs_bound-append k k', fm.pairs_within);
      sound = λ v h s. d_cum (fm.sound v h (satisfies_front v k k' s)) (typed v h).1 ((ok v).0 (satisfies_back v k k' s));
      principal = λ v h t d.
          let s = fm.principal v h t (at v a) d in
          let e = at_agree v s.w a (narrower la s.agree) in
          let eb = bodies_agree v s.w n₀ b x.bodies_within s.agree in
          record { w = s.w; agree = s.agree; satisfies = satisfies_append s.w k k' s.satisfies ((ok s.w).1 (below_with eb refl e s.below)); below = below_with refl e refl (Below.converts Converts.same); small = s.small };
    }

pub written_fits : (n₀ n₁ n₂ : ℕ) (c b : CoreBodies) (held : List LevelPair) (g : List Core) → Context n₀ c b held g → (m f a ta : Core) (k₁ k₂ k₃ : List LevelPair) → levels_bound a ≤ n₀ → FitsBetween n₀ n₁ c b held g m f k₁ → FitsBetween n₁ n₂ c b held g a ta k₂ → (s : Option Level) → HeadForm b ta (sort_term s) → pairs_bound k₃ ≤ n₂ → ((v : Assignment) → SatisfiesAll v k₃ ↔ Below (bodies_at v b) (at v f) (at v a)) → FitsWrittenBetween n₀ n₂ c b held g m a (k₁ ++ (k₂ ++ k₃))
written_fits n₀ n₁ n₂ c b held g x m f a ta k₁ k₂ k₃ la fm fa s head lk ok =
    let u₁ = fm.grows in
    let u₂ = fa.grows in
    record {
      grows = omega arith;
      pairs_within = omega (arith, pairs_bound-append k₁ (k₂ ++ k₃), pairs_bound-append k₂ k₃, fm.pairs_within, fa.pairs_within);
      sound = λ v h q. d_cum (fm.sound v h (satisfies_front v k₁ (k₂ ++ k₃) q)) (type_at v h q).1 ((ok v).0 (satisfies_back v k₂ k₃ (satisfies_back v k₁ (k₂ ++ k₃) q)));
      is_type = type_at;
      principal = λ v h t j d e.
          let s₁ = fm.principal v h t (at v a) d in
          let h₁ = satisfies_agree v s₁.w held (narrower x.held_within s₁.agree) h in
          let s₂ = next x v s₁.w s₁.agree g x.locals_within la fa h₁ t (Univ j) e in
          let p = then_solved n₀ n₁ v b k₁ k₂ ((f, at v a) ∷ []) ((ta, Univ j) ∷ []) t u₁ x.bodies_within fm.pairs_within (omega (arith, fm.type_within)) (one_solved s₁) (one_solved s₂) in
          let is = at_agree v p.w a (narrower la p.agree) in
          let eb = bodies_agree v p.w n₀ b x.bodies_within p.agree in
          record {
            w = p.w;
            agree = p.agree;
            satisfies = satisfies_append p.w k₁ (k₂ ++ k₃) (satisfies_front p.w k₁ k₂ p.satisfies) (satisfies_append p.w k₂ k₃ (satisfies_back p.w k₁ k₂ p.satisfies) ((ok p.w).1 (below_with eb refl is p.below.0)));
            below = below_with refl is refl (Below.converts Converts.same);
            small = p.small;
          };
    }
  where
    type_at : (v : Assignment) → SatisfiesAll v held → SatisfiesAll v (k₁ ++ (k₂ ++ k₃)) → (j : ℕ) × Derives (bodies_at v c) (bodies_at v b) (map (at v) g) (at v a) (Univ j)
    type_at v h q = (sort_value v s, sort_sound (bodies_at v c) b v (map (at v) g) (at v a) ta s head (fa.sound v h (satisfies_front v k₂ k₃ (satisfies_back v k₁ (k₂ ++ k₃) q))))

module _ (n₀ n₁ n₂ n₃ n₄ : ℕ) (c b : CoreBodies) (held : List LevelPair) (g : List Core) (x : Context n₀ c b held g) (y : Binder) (a ta r tr m tm n tn : Core) (ka kr km kn k k' : List LevelPair) (la : levels_bound a ≤ n₀) (lr : levels_bound r ≤ n₀) (lm : levels_bound m ≤ n₀) (ln : levels_bound n ≤ n₀) (fa : FitsBetween n₀ n₁ c b held g a ta ka) (fr : FitsBetween n₁ n₂ c b (held ++ ka) (a ∷ g) r tr kr) (fm : FitsBetween n₂ n₃ c b held g m tm km) (fn : FitsBetween n₃ n₄ c b held g n tn kn) (s s' : Option Level) (ha : HeadForm b ta (sort_term s)) (hr : HeadForm b tr (sort_term s')) (lk : pairs_bound k ≤ n₄) (lk' : pairs_bound k' ≤ n₄) (ok : (v : Assignment) → SatisfiesAll v k ↔ Below (bodies_at v b) (at v tm) (at v a)) (ok' : (v : Assignment) → SatisfiesAll v k' ↔ Below (bodies_at v b) (at v tn) (at v (instantiate r m))) where
  pair_sound : (v : Assignment) → SatisfiesAll v held → SatisfiesAll v (((ka ++ kr) ++ (km ++ kn)) ++ (k ++ k')) → Derives (bodies_at v c) (bodies_at v b) (map (at v) g) (at v (Pair y a r m n)) (at v (Sigma y a r))
  unfolding instantiate
  pair_sound v h z =
      let all = satisfies_front v ((ka ++ kr) ++ (km ++ kn)) (k ++ k') z in
      let last = satisfies_back v ((ka ++ kr) ++ (km ++ kn)) (k ++ k') z in
      let types = satisfies_front v (ka ++ kr) (km ++ kn) all in
      let parts = satisfies_back v (ka ++ kr) (km ++ kn) all in
      let hka = satisfies_front v ka kr types in
      let c' = bodies_at v c in
      let b' = bodies_at v b in
      let da = sort_sound c' b v (map (at v) g) (at v a) ta s ha (fa.sound v h hka) in
      let dr = sort_sound c' b v (at v a ∷ map (at v) g) (at v r) tr s' hr (fr.sound v (satisfies_append v held ka h hka) (satisfies_back v ka kr types)) in
      let dm = d_cum (fm.sound v h (satisfies_front v km kn parts)) da ((ok v).0 (satisfies_front v k k' last)) in
      let e = at-instantiate v r m in
      let di = d-instantiate c' b' (closed_valued (level_value v) c x.closed_types) (closed_valued (level_value v) b x.closed_bodies) dr dm in
      let dn = d_cum (fn.sound v h (satisfies_back v km kn parts)) di (below_with refl refl e ((ok' v).0 (satisfies_back v k k' last))) in
      d_pair da dr dm dn

  finish : (v : Assignment) (t : ℕ) (p : Term) (w : Assignment) → Agree n₀ v w → SatisfiesAll w ((ka ++ kr) ++ (km ++ kn)) → Below (bodies_at v b) (at w tm) (at v a) → Below (bodies_at v b) (at w tn) (instantiate (at v r) (at v m)) → Below (bodies_at v b) (Sigma tt (at v a) (at v r)) p → ((u : ℕ) → n₀ ≤ u → get_or w u 0 ≤ t) → Solution n₀ v b (((ka ++ kr) ++ (km ++ kn)) ++ (k ++ k')) (Sigma y a r) p t
  finish v t p w e hk bm bn le small =
      let ea = at_agree v w a (narrower la e) in
      let er = at_agree v w r (narrower lr e) in
      let em = at_agree v w m (narrower lm e) in
      let eb = bodies_agree v w n₀ b x.bodies_within e in
      let ei = ap₂ instantiate er em ∙ sym (at-instantiate w r m) in
      record {
        w = w;
        agree = e;
        satisfies = satisfies_append w ((ka ++ kr) ++ (km ++ kn)) (k ++ k') hk (satisfies_append w k k' ((ok w).1 (below_with eb refl ea bm)) ((ok' w).1 (below_with eb refl ei bn)));
        below = below_with refl (ap₂ (Sigma tt) ea er) refl le;
        small = small;
      }

  pair_principal : (v : Assignment) → SatisfiesAll v held → (t : ℕ) (p : Term) → Bounded t (bodies_at v c) (bodies_at v b) (map (at v) g) (at v (Pair y a r m n)) p → Solution n₀ v b (((ka ++ kr) ++ (km ++ kn)) ++ (k ++ k')) (Sigma y a r) p t
  pair_principal v h t p d =
      let z = generation_up d in
      let u₁ = fa.grows in
      let u₂ = fr.grows in
      let u₃ = fm.grows in
      let u₄ = fn.grows in
      let p₁ = two n₀ n₀ n₁ n₂ c b held g x (omega arith) a ta r tr ka kr la lr fa fr v h t (Univ z.0) (Univ z.1) z.2 z.3 in
      let h₁ = satisfies_agree v p₁.w held (narrower x.held_within p₁.agree) h in
      let sm = next x v p₁.w p₁.agree g x.locals_within lm fm h₁ t (at v a) z.4 in
      let far = agree_both (omega arith) p₁.agree sm.agree in
      let h₂ = satisfies_agree v sm.w held (narrower x.held_within far) h in
      let sn = next x v sm.w far g x.locals_within ln fn h₂ t (instantiate (at v r) (at v m)) z.5 in
      let p₂ = then_solved n₂ n₃ p₁.w b km kn ((tm, at v a) ∷ []) ((tn, instantiate (at v r) (at v m)) ∷ []) t u₃ (λ y o q. let e = x.bodies_within y o q in omega arith) fm.pairs_within (omega (arith, fm.type_within)) (one_solved sm) (one_solved sn) in
      let p₃ = then_solved n₀ n₂ v b (ka ++ kr) (km ++ kn) ((ta, Univ z.0) ∷ (tr, Univ z.1) ∷ []) ((tm, at v a) ∷ (tn, instantiate (at v r) (at v m)) ∷ []) t (omega arith) x.bodies_within (omega (arith, pairs_bound-append ka kr, fa.pairs_within, fr.pairs_within)) (omega (arith, fa.type_within, fr.type_within)) p₁ p₂ in
      finish v t p p₃.w p₃.agree p₃.satisfies p₃.below.1.1.0 p₃.below.1.1.1.0 z.6 p₃.small

  pub pair_fits : FitsBetween n₀ n₄ c b held g (Pair y a r m n) (Sigma y a r) (((ka ++ kr) ++ (km ++ kn)) ++ (k ++ k'))
  pair_fits =
      let u₁ = fa.grows in
      let u₂ = fr.grows in
      let u₃ = fm.grows in
      let u₄ = fn.grows in
      record {
        grows = omega arith;
        type_within = omega arith;
        pairs_within = omega (arith, pairs_bound-append ((ka ++ kr) ++ (km ++ kn)) (k ++ k'), pairs_bound-append (ka ++ kr) (km ++ kn), pairs_bound-append ka kr, pairs_bound-append km kn, pairs_bound-append k k', fa.pairs_within, fr.pairs_within, fm.pairs_within, fn.pairs_within);
        sound = pair_sound;
        principal = pair_principal;
      }
