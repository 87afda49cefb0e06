use Rattle.std.proofs.Common.{◌≡◌, ◌+◌, ◌-◌, ◌≤◌, None, refl, inr, subst, arith}
use Rattle.std.proofs.lemmas.Grind.{common_steps}
use Rattle.lego_level.specs.Graphs.{implied}
use Rattle.lego_level.specs.private.Potentials.{value_at}
use Rattle.lego_level.specs.private.Steps.{IsStep}
use Rattle.lego_level.proofs.LeastLemmas.{upward, lowest}
use Rattle.lego_level.proofs.PotentialLemmas.{value_zero}
use Rattle.lego_level.proofs.least.lowest.Goals as goal

pub overflow_sub-spread : goal.overflow_sub-spread
overflow_sub-spread c =
    let k = c.requires.feasible (implied 0) (inr (0, refl)) in let t = c.requires.top 0 in let z = value_zero c.args.potential.now None refl in omega (arith, k, t, z)

pub returns-in-Ended : goal.returns-in-Ended
returns-in-Ended c =
    let p = c.args.potential.now in let v = value_at p in let cs = c.args.edges.now in
    let s = subst (λ o. IsStep (upward c.in_ok-ok_or.field-0 c.args.count) v cs c.steps.search c.advance.new.search o) c.in-Ended.is c.in_ok-advance.ensures in
    let zero = value_zero p None refl in
    let g : c.in_ok-ok_or.field-0 ≡ p.top - p.zero + 1 = grind (arith, common_steps) in
    let low : p.zero ≤ p.top = let k = c.requires.feasible (implied 0) (inr (0, refl)) in let t = c.requires.top 0 in omega (arith, k, t, zero) in
    lowest c.in_ok-ok_or.field-0 c.args.count v cs c.advance.new.search s.0 s.1 c.requires.feasible (λ u. let t = c.requires.top u in omega (arith, t, zero, g, low)) c.requires.below
