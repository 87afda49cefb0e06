-- Values for the new level variables of one part after another.
use Rattle.std.proofs.Common.{◌≡◌, ℕ, ◌≤◌, max, List, [], ◌∷◌, ◌++◌, map, get_or, ⊎_elim, refl, sym, arith, subst, Option, Some, None}
use Rattle.std.proofs.lemmas.Bool.{cases_lt}
use Rattle.lego_term.specs.declared.level.Level.{Level}
use Rattle.lego_term.specs.Levels.{Assignment, level_value, LevelPair, SatisfiesAll}
use Rattle.lego_term.specs.Trees.{Core, Term, Univ, at}
use Rattle.lego_term.specs.Steps.{Step, Converts}
use Rattle.lego_term.specs.Below.{Below}
use Rattle.lego_term.specs.Sequences.{HeadForm}
use Rattle.lego_laws.specs.Parallel.{TermBodies, CoreBodies, AreClosed, Star, stop, go, bodies_at}
use Rattle.lego_laws.specs.Derivations.{Derives, d_univ, d_cum, ValidLocals, ValidConstants}
use Rattle.lego_laws.specs.Ranges.{levels_bound, level_bound, pairs_bound, locals_bound, Agree, Bounded, Context, Solution, FitsBetween, sort_term, sort_at_most}
use Rattle.lego_laws.proofs.lemmas.reduction.CommonReducts.{step-parallel}
use Rattle.lego_laws.proofs.lemmas.reduction.Below.{universes_invert}
use Rattle.lego_laws.proofs.lemmas.typing.TypedSteps.{subject_reduction}
use Rattle.lego_laws.proofs.lemmas.reduction.HeadSteps.{head_steps}
use Rattle.lego_laws.proofs.lemmas.reduction.Mapping.{step-map}
use Rattle.lego_laws.proofs.lemmas.reduction.Valued.{head_form_converts}
use Rattle.lego_laws.proofs.lemmas.inference.LevelsWithin.{levels-star}
use Rattle.lego_laws.proofs.lemmas.inference.Agreeing.{narrower, at_agree, value_agree, satisfies_agree, bodies_agree, locals_agree, moved, agree_both}
use Rattle.lego_laws.proofs.lemmas.inference.Satisfying.{satisfies_append}

-- steps keep a type
pub runs_keep : (c b : TermBodies) → AreClosed c → AreClosed b → ValidConstants c b → {g : List Term} → ValidLocals c b g → {m m' : Term} → Star (Step b) m m' → {a : Term} → Derives c b g m a → Derives c b g m' a
runs_keep c b tc bc x v stop d = d
runs_keep c b tc bc x v (go s p) d = runs_keep c b tc bc x v p (subject_reduction c b tc bc x d (step-parallel s) v)

star-map : (v : Assignment) {b : CoreBodies} {t u : Core} → Star (Step b) t u → Star (Step (bodies_at v b)) (at v t) (at v u)
star-map v stop = stop
star-map v {b} (go s p) = go (step-map (λ x. tt) (λ x. tt) (level_value v) b s) (star-map v p)

-- the run to the head form, at an assignment
pub head_run : (v : Assignment) {b : CoreBodies} {t h : Core} → HeadForm b t h → Star (Step (bodies_at v b)) (at v t) (at v h)
head_run v {b} {t} {h} p = star-map v (head_steps b p.0 t h p.1.reaches)

-- the head form's level variables are those of the term and of the bodies
pub head_within : {n : ℕ} {b : CoreBodies} {t h : Core} → ((k : ℕ) (u : Core) → b k ≡ Some u → levels_bound u ≤ n) → levels_bound t ≤ n → HeadForm b t h → levels_bound h ≤ n
head_within {n} {b} {t} {h} w l p = levels-star n w (head_steps b p.0 t h p.1.reaches) l

pub below_with : {b b' : TermBodies} {t t' u u' : Term} → b ≡ b' → t ≡ t' → u ≡ u' → Below b t u → Below b' t' u'
below_with {b} {b'} {t} {t'} {u} {u'} eb et eu p =
    subst (λ z. Below z t' u') eb (subst (λ z. Below b z u') et (subst (λ z. Below b t z) eu p))

-- each first type, at the assignment, is below its second
abbrev pub AllBelow : TermBodies → Assignment → List (Core × Term) → Type 0
AllBelow b w [] = Unit {0}
AllBelow b w (p ∷ ps) = Below b (at w p.0) p.1 × AllBelow b w ps

abbrev pub firsts_bound : List (Core × Term) → ℕ
firsts_bound [] = 0
firsts_bound (p ∷ ps) = max (levels_bound p.0) (firsts_bound ps)

-- as a solution, for several parts
pub record Solved (low : ℕ) (v : Assignment) (b : CoreBodies) (k : List LevelPair) (ps : List (Core × Term)) (t : ℕ) : Type 0 where
  pub w : Assignment
  pub agree : Agree low v w
  pub satisfies : SatisfiesAll w k
  pub below : AllBelow (bodies_at v b) w ps
  pub small : (u : ℕ) → low ≤ u → get_or w u 0 ≤ t

all_agree : (b : TermBodies) (w w' : Assignment) (ps : List (Core × Term)) → Agree (firsts_bound ps) w w' → AllBelow b w ps → AllBelow b w' ps
all_agree b w w' [] h q = tt
all_agree b w w' (p ∷ ps) h q =
    (below_with refl (at_agree w w' p.0 (narrower (omega arith) h)) refl q.0, all_agree b w w' ps (narrower (omega arith) h) q.1)

all_append : (b : TermBodies) (w : Assignment) (ps qs : List (Core × Term)) → AllBelow b w ps → AllBelow b w qs → AllBelow b w (ps ++ qs)
all_append b w [] qs h k = k
all_append b w (p ∷ ps) qs h k = (h.0, all_append b w ps qs h.1 k)

all_over : (b b' : TermBodies) (w : Assignment) (ps : List (Core × Term)) → b ≡ b' → AllBelow b w ps → AllBelow b' w ps
all_over b b' w ps e h = subst (λ z. AllBelow z w ps) e h

abbrev pub one_solved : {low : ℕ} {v : Assignment} {b : CoreBodies} {k : List LevelPair} {a : Core} {q : Term} {t : ℕ} → Solution low v b k a q t → Solved low v b k ((a, q) ∷ []) t
one_solved s = record { w = s.w; agree = s.agree; satisfies = s.satisfies; below = (s.below, tt); small = s.small }

pub small_both : (n₀ n₁ t : ℕ) (w₁ w₂ : Assignment) → Agree n₁ w₁ w₂ → ((u : ℕ) → n₀ ≤ u → get_or w₁ u 0 ≤ t) → ((u : ℕ) → n₁ ≤ u → get_or w₂ u 0 ≤ t) → (u : ℕ) → n₀ ≤ u → get_or w₂ u 0 ≤ t
small_both n₀ n₁ t w₁ w₂ a p q u lo = ⊎_elim (λ l. let e = a.same u l in let h = p u lo in omega arith) (λ l. q u l) (cases_lt u n₁)

pub then_solved : (n₀ n₁ : ℕ) (v : Assignment) (b : CoreBodies) (k₁ k₂ : List LevelPair) (ps qs : List (Core × Term)) (t : ℕ) → n₀ ≤ n₁ → ((k : ℕ) (u : Core) → b k ≡ Some u → levels_bound u ≤ n₀) → pairs_bound k₁ ≤ n₁ → firsts_bound ps ≤ n₁ → (s : Solved n₀ v b k₁ ps t) → Solved n₁ s.w b k₂ qs t → Solved n₀ v b (k₁ ++ k₂) (ps ++ qs) t
then_solved n₀ n₁ v b k₁ k₂ ps qs t le within lk lp s r =
    record {
      w = r.w;
      agree = agree_both le s.agree r.agree;
      satisfies = satisfies_append r.w k₁ k₂ (satisfies_agree s.w r.w k₁ (narrower lk r.agree) s.satisfies) r.satisfies;
      below = all_append (bodies_at v b) r.w ps qs (all_agree (bodies_at v b) s.w r.w ps (narrower lp r.agree) s.below) (all_over (bodies_at s.w b) (bodies_at v b) r.w qs (sym (bodies_agree v s.w n₀ b within s.agree)) r.below);
      small = small_both n₀ n₁ t s.w r.w r.agree s.small r.small;
    }

-- the second part's derivation at the first part's values
pub next : {n₀ n₁ n₂ : ℕ} {c b : CoreBodies} {held : List LevelPair} {g : List Core} → Context n₀ c b held g → (v w : Assignment) → Agree n₀ v w → (h : List Core) → locals_bound h ≤ n₀ → {held' : List LevelPair} {m a : Core} {k : List LevelPair} → levels_bound m ≤ n₀ → FitsBetween n₁ n₂ c b held' h m a k → SatisfiesAll w held' → (t : ℕ) (q : Term) → Bounded t (bodies_at v c) (bodies_at v b) (map (at v) h) (at v m) q → Solution n₁ w b k a q t
next {n₀} {n₁} {n₂} {c} {b} x v w e h lh {held'} {m} lm f hw t q d =
    f.principal w hw t q (moved (bodies_agree v w n₀ c x.types_within e) (bodies_agree v w n₀ b x.bodies_within e) (locals_agree v w h (narrower lh e)) (at_agree v w m (narrower lm e)) d)

abbrev pub sort_value : Assignment → Option Level → ℕ
sort_value v None = 0
sort_value v (Some l) = level_value v l

pub sort_sound : (c : TermBodies) (b : CoreBodies) (v : Assignment) (g : List Term) (a : Term) (f : Core) (s : Option Level) → HeadForm b f (sort_term s) → Derives c (bodies_at v b) g a (at v f) → Derives c (bodies_at v b) g a (Univ (sort_value v s))
sort_sound c b v g a f None h d = d_cum d d_univ (Below.chain (Below.converts (head_form_converts (level_value v) h)) Below.prop)
sort_sound c b v g a f (Some l) h d = d_cum d d_univ (Below.converts (head_form_converts (level_value v) h))

-- the sort's value is at most a universe above the type
pub sort_least : (b : CoreBodies) (b' : TermBodies) (v : Assignment) → bodies_at v b ≡ b' → AreClosed b' → (f : Core) (s : Option Level) (j : ℕ) → HeadForm b f (sort_term s) → Below b' (at v f) (Univ j) → sort_value v s ≤ j
sort_least b b' v e closed f None j h p = omega arith
sort_least b b' v e closed f (Some l) j h p =
    universes_invert b' closed (level_value v l) j (Below.chain (below_with e refl refl (Below.converts (Converts.back (head_form_converts (level_value v) h)))) p)

pub sort_levels : (s : Option Level) (l : Level) → pairs_bound (sort_at_most s l) ≤ max (levels_bound (sort_term s)) (level_bound l)
sort_levels None l = omega arith
sort_levels (Some k) l = omega arith

pub sort_agree : (v w : Assignment) (s : Option Level) → Agree (levels_bound (sort_term s)) v w → sort_value v s ≡ sort_value w s
sort_agree v w None h = refl
sort_agree v w (Some l) h = value_agree v w l h

pub sort_holds : (w : Assignment) (s : Option Level) (l : Level) → sort_value w s ≤ level_value w l → SatisfiesAll w (sort_at_most s l)
sort_holds w None l h = tt
sort_holds w (Some k) l h = (h, tt)

pub sort_held : (w : Assignment) (s : Option Level) (l : Level) → SatisfiesAll w (sort_at_most s l) → sort_value w s ≤ level_value w l
sort_held w None l h = omega arith
sort_held w (Some k) l h = h.0
