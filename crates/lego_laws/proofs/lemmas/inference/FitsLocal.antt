-- Constraints of a local definition: those of its value, and of its body with the value put in.
use Rattle.std.proofs.Common.{[], ◌∷◌, arith}
use Rattle.lego_term.specs.Below.{Below}
use Rattle.lego_laws.specs.Derivations.{d_let}
use Rattle.lego_laws.specs.Inference.{FitsLocal}
use Rattle.lego_laws.proofs.lemmas.inference.Bounded.{generation_up}
use Rattle.lego_laws.proofs.lemmas.inference.Agreeing.{narrower, satisfies_agree, pairs_bound-append}
use Rattle.lego_laws.proofs.lemmas.inference.LevelsWithin.{levels-instantiate}
use Rattle.lego_laws.proofs.lemmas.inference.Satisfying.{satisfies_front, satisfies_back}
use Rattle.lego_laws.proofs.lemmas.inference.Solving.{one_solved, then_solved, next}
use Rattle.lego_laws.proofs.lemmas.inference.FitsApp.{at-instantiate}

pub fits_local : FitsLocal
fits_local n₀ n₁ n₂ c b held g x y m f n q k₁ k₂ lm ln fm fn =
    let u₁ = fm.grows in
    let u₂ = fn.grows in
    record {
      grows = omega arith;
      type_within = fn.type_within;
      pairs_within = omega (arith, pairs_bound-append k₁ k₂, fm.pairs_within, fn.pairs_within);
      sound = λ v h s. d_let (fm.sound v h (satisfies_front v k₁ k₂ s)) (rw (← at-instantiate v n m) (fn.sound v h (satisfies_back v k₁ k₂ s)));
      principal = λ v h t p d.
          let z = generation_up d in
          let s₁ = fm.principal v h t z.0 z.2 in
          let h₁ = satisfies_agree v s₁.w held (narrower x.held_within s₁.agree) h in
          let s₂ = next x v s₁.w s₁.agree g x.locals_within (omega (arith, levels-instantiate n m)) fn h₁ t z.1 (rw at-instantiate z.3) in
          let r = then_solved n₀ n₁ v b k₁ k₂ ((f, z.0) ∷ []) ((q, z.1) ∷ []) t u₁ x.bodies_within fm.pairs_within (omega (arith, fm.type_within)) (one_solved s₁) (one_solved s₂) in
          record { w = r.w; agree = r.agree; satisfies = r.satisfies; below = Below.chain r.below.1.0 z.4; small = r.small };
    }
