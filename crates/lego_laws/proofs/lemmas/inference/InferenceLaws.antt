-- The laws of inference, as contracts state them.
use Rattle.std.proofs.Common.{◌≡◌, ℕ, zero, suc, ◌≤◌, Some, List, [], ◌∷◌, map, slice_get, get_or, ⊎_elim, refl, sym, arith, subst}
use Rattle.std.proofs.lemmas.Bool.{cases_lt}
use Rattle.lego_term.specs.Levels.{Assignment}
use Rattle.lego_term.specs.Trees.{Core, Term, lift, at}
use Rattle.lego_laws.specs.Parallel.{bodies_at}
use Rattle.lego_laws.specs.Derivations.{v_local}
use Rattle.lego_laws.specs.Ranges.{Agree, Solution}
use Rattle.lego_laws.specs.Inference.{FitsProp, FitsVariable, FitsConstant, FitsUniverse, FitsLambda, FitsProposition, FitsProduct, FitsSigma, FitsApplication, FitsPair, FitsFirst, FitsSecond, FitsAgainst, FitsAgainstWritten, FitsByOthers, FitsInWiderRange, ContextsWiden, ContextsGrow}
use Rattle.lego_laws.proofs.lemmas.reduction.Subst.{lift_more}
use Rattle.lego_laws.proofs.lemmas.inference.Agreeing.{narrower, satisfies_agree, bodies_agree, bounded_agree, pairs_bound-append, agree_both, cut, cut_agree, cut_small}
use Rattle.lego_laws.proofs.lemmas.inference.Satisfying.{satisfies_front, satisfies_back}
use Rattle.lego_laws.proofs.lemmas.inference.Solving.{below_with, sort_sound}
use Rattle.lego_laws.proofs.lemmas.inference.FitsLeaf.{HasCoreLocal, first, later, prop_fits, var_fits, const_fits, univ_fits}
use Rattle.lego_laws.proofs.lemmas.inference.FitsBinder.{lam_fits, sigma_fits, pi_prop_fits, pi_fits}
use Rattle.lego_laws.proofs.lemmas.inference.FitsApp.{app_fits, fst_fits, snd_fits}
use Rattle.lego_laws.proofs.lemmas.inference.FitsPair.{wanted_fits, written_fits, pair_fits}

pub core_local_at : (g : List Core) (i : ℕ) (a : Core) → slice_get g i ≡ Some a → HasCoreLocal g i (lift 0 (suc i) a)
core_local_at [] i a e = cc
core_local_at (t ∷ g) zero a e = let is : t ≡ a = cc e in subst (λ z. HasCoreLocal (t ∷ g) zero (lift 0 1 z)) is first
core_local_at (t ∷ g) (suc i) a e = subst (λ z. HasCoreLocal (t ∷ g) (suc i) z) (lift_more (suc i) a) (later (core_local_at g i a e))

pub fits_prop : FitsProp
fits_prop n c b held g x = prop_fits n c b held g x

pub fits_variable : FitsVariable
fits_variable n c b held g x i a e = var_fits n c b held g x (core_local_at g i a e)

pub fits_constant : FitsConstant
fits_constant n c b held g x k a e = const_fits n c b held g x e

pub fits_universe : FitsUniverse
fits_universe n c b held g x l le = univ_fits n c b held g x l le

pub fits_lambda : FitsLambda
fits_lambda n₀ n₁ n₂ c b held g x y a ta m tm ka km la lm fa s h fm = lam_fits n₀ n₁ n₂ c b held g x y a ta m tm ka km la lm fa fm s h

pub fits_proposition : FitsProposition
fits_proposition n₀ n₁ n₂ c b held g x y a ta r tr ka kr la lr fa s h fr h' = pi_prop_fits n₀ n₁ n₂ c b held g x y a ta r tr ka kr la lr fa fr s h h'

pub fits_product : FitsProduct
fits_product n₀ n₁ n₂ c b held g x y a ta r tr ka kr la lr fa s h fr l h' = pi_fits n₀ n₁ n₂ c b held g x y a ta r tr ka kr la lr fa fr s l h h'

pub fits_sigma : FitsSigma
fits_sigma n₀ n₁ n₂ c b held g x y a ta r tr ka kr la lr fa s h fr s' h' = sigma_fits n₀ n₁ n₂ c b held g x y a ta r tr ka kr la lr fa fr s s' h h'

pub fits_application : FitsApplication
fits_application n₀ n₁ n₂ c b held g x k y m n f a r q k₁ k₂ k₃ lm ln fm head fn l₃ ok = app_fits n₀ n₁ n₂ c b held g x k y m n f a r q k₁ k₂ k₃ lm ln fm head fn l₃ ok

pub fits_pair : FitsPair
fits_pair n₀ n₁ n₂ n₃ n₄ c b held g x y a ta r tr m tm n tn ka kr km kn k k' la lr lm ln fa fr fm fn s s' h h' lk lk' ok ok' =
    pair_fits n₀ n₁ n₂ n₃ n₄ c b held g x y a ta r tr m tm n tn ka kr km kn k k' la lr lm ln fa fr fm fn s s' h h' lk lk' ok ok'

pub fits_first : FitsFirst
fits_first n₀ n₁ c b held g x y m f a r k lm fm h = fst_fits n₀ n₁ c b held g x y m f a r k lm fm h

pub fits_second : FitsSecond
fits_second n₀ n₁ c b held g x y m f a r k lm fm h = snd_fits n₀ n₁ c b held g x y m f a r k lm fm h

pub fits_against : FitsAgainst
fits_against n₀ n₁ c b held g x m f a k k' la fm lk typed ok = wanted_fits n₀ n₁ c b held g x m f a k k' la fm lk typed ok

pub fits_written : FitsAgainstWritten
fits_written n₀ n₁ n₂ c b held g x m f a ta k₁ k₂ k₃ la fm fa s head lk ok = written_fits n₀ n₁ n₂ c b held g x m f a ta k₁ k₂ k₃ la fm fa s head lk ok

pub fits_by_others : FitsByOthers
fits_by_others n₀ n₁ c b held g m a k k' f le same =
    record {
      grows = f.grows;
      type_within = f.type_within;
      pairs_within = le;
      sound = λ v h s. f.sound v h ((same v).1 s);
      principal = λ v h t q d. let s = f.principal v h t q d in record { w = s.w; agree = s.agree; satisfies = (same s.w).0 s.satisfies; below = s.below; small = s.small };
    }

pub fits_in_wider_range : FitsInWiderRange
fits_in_wider_range n₀ m₀ m₁ n₁ c b held g x m a k lm low high f =
    record {
      grows = let r = f.grows in omega arith;
      type_within = let r = f.type_within in omega arith;
      pairs_within = let r = f.pairs_within in omega arith;
      sound = f.sound;
      principal = λ v h t q d. lower v t q (f.principal (cut n₀ v) (satisfies_agree v (cut n₀ v) held (narrower x.held_within (cut_agree n₀ v)) h) t q (bounded_agree x v (cut n₀ v) (cut_agree n₀ v) t m q lm d));
    }
  where
    low_small : (v : Assignment) (t : ℕ) (w : Assignment) → Agree m₀ (cut n₀ v) w → ((u : ℕ) → m₀ ≤ u → get_or w u 0 ≤ t) → (u : ℕ) → n₀ ≤ u → get_or w u 0 ≤ t
    low_small v t w e s u lo = ⊎_elim (λ l. let i = e.same u l in let z = cut_small n₀ v u lo in omega arith) (λ l. s u l) (cases_lt u m₀)

    lower : (v : Assignment) (t : ℕ) (q : Term) → Solution m₀ (cut n₀ v) b k a q t → Solution n₀ v b k a q t
    lower v t q s =
        record {
          w = s.w;
          agree = agree_both low (cut_agree n₀ v) s.agree;
          satisfies = s.satisfies;
          below = below_with (sym (bodies_agree v (cut n₀ v) n₀ b x.bodies_within (cut_agree n₀ v))) refl refl s.below;
          small = low_small v t s.w s.agree s.small;
        }

pub contexts_widen : ContextsWiden
contexts_widen n n' c b held g le x =
    let l = x.locals_within in
    let h = x.held_within in
    record {
      types_within = λ k a e. let w = x.types_within k a e in omega arith;
      bodies_within = λ k a e. let w = x.bodies_within k a e in omega arith;
      locals_within = omega arith;
      held_within = omega arith;
      closed_types = x.closed_types;
      closed_bodies = x.closed_bodies;
      valid = x.valid;
      locals = x.locals;
    }

pub contexts_grow : ContextsGrow
contexts_grow n₀ m₀ n₁ c b held g x a ta ka la low fa s h =
    let l = x.locals_within in
    let k = x.held_within in
    let r = fa.grows in
    let p = fa.pairs_within in
    record {
      types_within = λ k a e. let w = x.types_within k a e in omega arith;
      bodies_within = λ k a e. let w = x.bodies_within k a e in omega arith;
      locals_within = omega arith;
      held_within = omega (arith, pairs_bound-append held ka);
      closed_types = x.closed_types;
      closed_bodies = x.closed_bodies;
      valid = λ v q. x.valid v (satisfies_front v held ka q);
      locals = λ v q.
          let q₁ = satisfies_front v held ka q in
          v_local (x.locals v q₁) (sort_sound (bodies_at v c) b v (map (at v) g) (at v a) ta s h (fa.sound v q₁ (satisfies_back v held ka q)));
    }
