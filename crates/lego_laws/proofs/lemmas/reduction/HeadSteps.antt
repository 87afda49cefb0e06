-- Head steps are steps.
use Rattle.std.proofs.Common.{◌≡◌, ℕ, zero, suc, Option, Some, None, option_map, option_and_then, refl, ◌⊎◌, inl, inr}
use Rattle.lego_term.specs.Trees.{Tree, Const, Lam, App, Pair, Fst, Snd, Bodies, Let}
use Rattle.lego_term.specs.Steps.{Contracts, Step}
use Rattle.lego_term.specs.Sequences.{or_else, contract_app, contract_fst, contract_snd, head_step, after}
use Rattle.lego_laws.specs.Parallel.{Star, stop, go}

-- where a choice has a value, the first or the second has it
pub either_some : {X : Type 0} (o p : Option X) (x : X) → or_else o p ≡ Some x → (o ≡ Some x) ⊎ ((o ≡ None) × (p ≡ Some x))
either_some None p x e = inr (refl, e)
either_some (Some y) p x e = inl e

pub mapped_from : {X Y : Type 0} (f : X → Y) (o : Option X) (y : Y) → option_map f o ≡ Some y → (x : X) × (o ≡ Some x) × (f x ≡ y)
mapped_from f None y e = cc
mapped_from f (Some x) y e = (x, refl, cc)

pub some_is : {X : Type 0} {t u : X} → Some t ≡ Some u → t ≡ u
some_is e = cc

module _ {B M L : Type 0} (b : Bodies B M L) where
  app_contracts : (k : M) (m n u : Tree B M L) → contract_app m n ≡ Some u → Step b (App k m n) u
  app_contracts k (Lam x a m) n u e = rw (← some_is e) (Step.here Contracts.beta)
  app_contracts k _ n u e = cc

  fst_contracts : (m u : Tree B M L) → contract_fst m ≡ Some u → Step b (Fst m) u
  fst_contracts (Pair x a c m n) u e = rw (← some_is e) (Step.here Contracts.first)
  fst_contracts _ u e = cc

  snd_contracts : (m u : Tree B M L) → contract_snd m ≡ Some u → Step b (Snd m) u
  snd_contracts (Pair x a c m n) u e = rw (← some_is e) (Step.here Contracts.second)
  snd_contracts _ u e = cc

  inside : (f : Tree B M L → Tree B M L) (m u : Tree B M L) → ((x y : Tree B M L) → Step b x y → Step b (f x) (f y)) → ((x : Tree B M L) → head_step b m ≡ Some x → Step b m x) → option_map f (head_step b m) ≡ Some u → Step b (f m) u
  inside f m u c h e = let k = mapped_from f (head_step b m) u e in rw (← k.2) (c m k.0 (h k.0 k.1))

  pub head_step-step : (t u : Tree B M L) → head_step b t ≡ Some u → Step b t u
  head_step-step (Const k) u e = Step.here (Contracts.unfolds e)
  head_step-step (App k m n) u e =
      elim (either_some (contract_app m n) (option_map (λ m'. App k m' n) (head_step b m)) u e) [ inl c ↦ app_contracts k m n u c | inr s ↦ inside (λ z. App k z n) m u (λ x y p. Step.function p) (head_step-step m) s.1 ]
  head_step-step (Fst m) u e =
      elim (either_some (contract_fst m) (option_map Fst (head_step b m)) u e) [ inl c ↦ fst_contracts m u c | inr s ↦ inside Fst m u (λ x y p. Step.fst_operand p) (head_step-step m) s.1 ]
  head_step-step (Snd m) u e =
      elim (either_some (contract_snd m) (option_map Snd (head_step b m)) u e) [ inl c ↦ snd_contracts m u c | inr s ↦ inside Snd m u (λ x y p. Step.snd_operand p) (head_step-step m) s.1 ]
  head_step-step (Let x m n) u e = rw (← some_is e) (Step.here Contracts.local)
  head_step-step _ u e = cc

  head_steps_from : (n : ℕ) (o : Option (Tree B M L)) (t u : Tree B M L) → ((x : Tree B M L) → after (head_step b) n x ≡ Some u → Star (Step b) x u) → head_step b t ≡ o → option_and_then (after (head_step b) n) o ≡ Some u → Star (Step b) t u
  head_steps_from n None t u h q e = cc
  head_steps_from n (Some x) t u h q e = go (head_step-step t x q) (h x e)

  pub head_steps : (n : ℕ) (t u : Tree B M L) → after (head_step b) n t ≡ Some u → Star (Step b) t u
  head_steps zero t u e = rw (some_is e) stop
  head_steps (suc n) t u e = head_steps_from n (head_step b t) t u (λ x q. head_steps n x u q) refl e
