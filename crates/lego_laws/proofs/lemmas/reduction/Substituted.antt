-- Steps and conversion under lifting and substitution.
use Rattle.std.proofs.Common.{ℕ}
use Rattle.lego_term.specs.Trees.{Tree, Var, Bodies, lift, instantiate}
use Rattle.lego_term.specs.Steps.{Converts}
use Rattle.lego_laws.specs.Parallel.{AreClosed, ParallelStep}
use Rattle.lego_laws.specs.Confluence.{StepsSubstituteOf, StepsSubstitute}
use Rattle.lego_laws.proofs.lemmas.reduction.Subst.{substitute, one, rename_is, lift_is, raise, instantiate_is}
use Rattle.lego_laws.proofs.lemmas.reduction.Parallel.{p_refl, p-rename, p-substitute, p-instantiate}
use Rattle.lego_laws.proofs.lemmas.reduction.CommonReducts.{step-parallel, parallel-steps, convert_run}

module _ {B M L : Type 0} (b : Bodies B M L) (closed : AreClosed b) where
  parallel-converts : {t u : Tree B M L} → ParallelStep b t u → Converts b t u
  parallel-converts p = convert_run (parallel-steps p)

  pub convert-substitute : (s : ℕ → Tree B M L) {t u : Tree B M L} → Converts b t u → Converts b (substitute s t) (substitute s u)
  convert-substitute s (Converts.step p) = parallel-converts (p-substitute b closed s s (λ i. p_refl b (s i)) (step-parallel p))
  convert-substitute s Converts.same = Converts.same
  convert-substitute s (Converts.back p) = Converts.back (convert-substitute s p)
  convert-substitute s (Converts.chain p q) = Converts.chain (convert-substitute s p) (convert-substitute s q)

  pub parallel-lift : (from by : ℕ) {t u : Tree B M L} → ParallelStep b t u → ParallelStep b (lift from by t) (lift from by u)
  parallel-lift from by {t} {u} p = rw (lift_is from by t, lift_is from by u) (p-rename b closed (raise from by) p)

  pub convert-lift : (from by : ℕ) {t u : Tree B M L} → Converts b t u → Converts b (lift from by t) (lift from by u)
  convert-lift from by {t} {u} p =
      rw (lift_is from by t, lift_is from by u, rename_is (raise from by) t, rename_is (raise from by) u)
      (convert-substitute (λ i. Var (raise from by i)) p)

  -- conversion in the term, and in what is put into it
  argument_step : (m : Tree B M L) {n n' : Tree B M L} → Converts b n n' → Converts b (instantiate m n) (instantiate m n')
  argument_step m (Converts.step p) = parallel-converts (p-instantiate b closed (p_refl b m) (step-parallel p))
  argument_step m Converts.same = Converts.same
  argument_step m (Converts.back p) = Converts.back (argument_step m p)
  argument_step m (Converts.chain p q) = Converts.chain (argument_step m p) (argument_step m q)

  pub convert-instantiate : {m m' n n' : Tree B M L} → Converts b m m' → Converts b n n' → Converts b (instantiate m n) (instantiate m' n')
  convert-instantiate {m} {m'} {n} {n'} p q =
      Converts.chain (rw (instantiate_is m n, instantiate_is m' n) (convert-substitute (one n) p)) (argument_step m' q)

steps_substitute_of : {B M L : Type 0} → StepsSubstituteOf B M L
steps_substitute_of b closed from by m m' n n' =
    (parallel-lift b closed from by, p-instantiate b closed, convert-lift b closed from by, convert-instantiate b closed)

pub steps_substitute : StepsSubstitute
steps_substitute = (steps_substitute_of, steps_substitute_of)
