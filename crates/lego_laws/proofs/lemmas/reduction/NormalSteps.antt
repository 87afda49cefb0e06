-- Steps of the normalisation sequence are steps, and those of a head form stay inside its parts.
use Rattle.std.proofs.Common.{◌≡◌, Option, Some, None, option_map, inl, inr, refl, ap}
use Rattle.lego_term.specs.Trees.{Tree, Var, Const, Prop, Univ, Pi, Lam, App, Sigma, Pair, Fst, Snd, Bodies, Let}
use Rattle.lego_term.specs.Steps.{Contracts, Step}
use Rattle.lego_term.specs.Sequences.{or_else, head_step, normal_step}
use Rattle.lego_laws.specs.HeadForms.{IsHeadForm}
use Rattle.lego_laws.proofs.lemmas.reduction.CommonReducts.{step-parallel}
use Rattle.lego_laws.proofs.lemmas.reduction.HeadSteps.{either_some, mapped_from, head_step-step}
use Rattle.lego_laws.proofs.lemmas.reduction.Stuck.{IsLam, IsPair, app_stands, fst_stands, snd_stands, kept}

module _ {B M L : Type 0} (b : Bodies B M L) where
  under : (f : Tree B M L → Tree B M L) (o : Option (Tree B M L)) (t u : Tree B M L) → ((x y : Tree B M L) → Step b x y → Step b (f x) (f y)) → ((x : Tree B M L) → o ≡ Some x → Step b t x) → option_map f o ≡ Some u → Step b (f t) u
  under f o t u c h e = let k = mapped_from f o u e in rw (← k.2) (c t k.0 (h k.0 k.1))

  pub normal_step-step : (t u : Tree B M L) → normal_step b t ≡ Some u → Step b t u
  normal_step-step (Var i) u e = cc
  normal_step-step (Const k) u e = Step.here (Contracts.unfolds e)
  normal_step-step Prop u e = cc
  normal_step-step (Univ l) u e = cc
  normal_step-step (Pi x a r) u e =
      elim (either_some (option_map (λ z. Pi x z r) (normal_step b a)) (option_map (λ z. Pi x a z) (normal_step b r)) u e) [
        | inl p ↦ under (λ z. Pi x z r) (normal_step b a) a u (λ _ _ s. Step.pi_domain s) (normal_step-step a) p
        | inr q ↦ under (λ z. Pi x a z) (normal_step b r) r u (λ _ _ s. Step.pi_body s) (normal_step-step r) q.1
      ]
  normal_step-step (Lam x a r) u e =
      elim (either_some (option_map (λ z. Lam x z r) (normal_step b a)) (option_map (λ z. Lam x a z) (normal_step b r)) u e) [
        | inl p ↦ under (λ z. Lam x z r) (normal_step b a) a u (λ _ _ s. Step.lam_domain s) (normal_step-step a) p
        | inr q ↦ under (λ z. Lam x a z) (normal_step b r) r u (λ _ _ s. Step.lam_body s) (normal_step-step r) q.1
      ]
  normal_step-step (Sigma x a r) u e =
      elim (either_some (option_map (λ z. Sigma x z r) (normal_step b a)) (option_map (λ z. Sigma x a z) (normal_step b r)) u e) [
        | inl p ↦ under (λ z. Sigma x z r) (normal_step b a) a u (λ _ _ s. Step.sigma_domain s) (normal_step-step a) p
        | inr q ↦ under (λ z. Sigma x a z) (normal_step b r) r u (λ _ _ s. Step.sigma_body s) (normal_step-step r) q.1
      ]
  normal_step-step (App k m n) u e =
      elim (either_some (head_step b (App k m n)) (or_else (option_map (λ z. App k z n) (normal_step b m)) (option_map (λ z. App k m z) (normal_step b n))) u e) [
        | inl p ↦ head_step-step b (App k m n) u p
        | inr q ↦
            elim (either_some (option_map (λ z. App k z n) (normal_step b m)) (option_map (λ z. App k m z) (normal_step b n)) u q.1) [
              | inl p ↦ under (λ z. App k z n) (normal_step b m) m u (λ _ _ s. Step.function s) (normal_step-step m) p
              | inr r ↦ under (λ z. App k m z) (normal_step b n) n u (λ _ _ s. Step.argument s) (normal_step-step n) r.1
            ]
      ]
  normal_step-step (Pair x a r m n) u e =
      elim (either_some (option_map (λ z. Pair x z r m n) (normal_step b a)) _ u e) [
        | inl p ↦ under (λ z. Pair x z r m n) (normal_step b a) a u (λ _ _ s. Step.pair_domain s) (normal_step-step a) p
        | inr q ↦
            elim (either_some (option_map (λ z. Pair x a z m n) (normal_step b r)) _ u q.1) [
              | inl p ↦ under (λ z. Pair x a z m n) (normal_step b r) r u (λ _ _ s. Step.pair_body s) (normal_step-step r) p
              | inr q' ↦
                  elim (either_some (option_map (λ z. Pair x a r z n) (normal_step b m)) (option_map (λ z. Pair x a r m z) (normal_step b n)) u q'.1) [
                    | inl p ↦ under (λ z. Pair x a r z n) (normal_step b m) m u (λ _ _ s. Step.pair_first s) (normal_step-step m) p
                    | inr s ↦ under (λ z. Pair x a r m z) (normal_step b n) n u (λ _ _ s. Step.pair_second s) (normal_step-step n) s.1
                  ]
            ]
      ]
  normal_step-step (Fst m) u e =
      elim (either_some (head_step b (Fst m)) (option_map Fst (normal_step b m)) u e) [
        | inl p ↦ head_step-step b (Fst m) u p
        | inr q ↦ under Fst (normal_step b m) m u (λ _ _ s. Step.fst_operand s) (normal_step-step m) q.1
      ]
  normal_step-step (Snd m) u e =
      elim (either_some (head_step b (Snd m)) (option_map Snd (normal_step b m)) u e) [
        | inl p ↦ head_step-step b (Snd m) u p
        | inr q ↦ under Snd (normal_step b m) m u (λ _ _ s. Step.snd_operand s) (normal_step-step m) q.1
      ]
  normal_step-step (Let x m n) u e = head_step-step b (Let x m n) u e

  -- a head step comes first
  pub head_first : (t u : Tree B M L) → head_step b t ≡ Some u → normal_step b t ≡ Some u
  head_first (Const k) u e = e
  head_first (App k m n) u e = ap (λ o. or_else o (or_else (option_map (λ z. App k z n) (normal_step b m)) (option_map (λ z. App k m z) (normal_step b n)))) e
  head_first (Fst m) u e = ap (λ o. or_else o (option_map Fst (normal_step b m))) e
  head_first (Snd m) u e = ap (λ o. or_else o (option_map Snd (normal_step b m))) e
  head_first (Let x m n) u e = e
  head_first _ u e = cc

  -- what stands as the function of a head form, and as an operand of one
  abbrev pub IsFunction : Tree B M L → Type 0
  IsFunction m = IsHeadForm b m × (IsLam m → ⊥)

  abbrev pub IsOperand : Tree B M L → Type 0
  IsOperand m = IsHeadForm b m × (IsPair m → ⊥)

  function_stays : (m u : Tree B M L) → IsFunction m → normal_step b m ≡ Some u → IsFunction u
  function_stays m u p e = let k = kept (step-parallel (normal_step-step m u e)) p.0 in (k.stays, k.no_lam p.1)

  operand_stays : (m u : Tree B M L) → IsOperand m → normal_step b m ≡ Some u → IsOperand u
  operand_stays m u p e = let k = kept (step-parallel (normal_step-step m u e)) p.0 in (k.stays, k.no_pair p.1)

  pub in_function : (k : M) (n m u : Tree B M L) → IsFunction m → normal_step b m ≡ Some u → (normal_step b (App k m n) ≡ Some (App k u n)) × IsFunction u
  in_function k n m u p e = (rw (app_stands b k m n p.0 p.1, e) refl, function_stays m u p e)

  pub in_argument : (k : M) (m n u : Tree B M L) → IsFunction m → normal_step b m ≡ None → normal_step b n ≡ Some u → normal_step b (App k m n) ≡ Some (App k m u)
  in_argument k m n u p e f = rw (app_stands b k m n p.0 p.1, e, f) refl

  pub in_fst : (m u : Tree B M L) → IsOperand m → normal_step b m ≡ Some u → (normal_step b (Fst m) ≡ Some (Fst u)) × IsOperand u
  in_fst m u p e = (rw (fst_stands b m p.0 p.1, e) refl, operand_stays m u p e)

  pub in_snd : (m u : Tree B M L) → IsOperand m → normal_step b m ≡ Some u → (normal_step b (Snd m) ≡ Some (Snd u)) × IsOperand u
  in_snd m u p e = (rw (snd_stands b m p.0 p.1, e) refl, operand_stays m u p e)
