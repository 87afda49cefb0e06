use Rattle.lego_level.specs.declared.direction.Direction.TheVariants.{Up, Down}
use Rattle.std.proofs.Common.{◌≡◌, ◌++◌, ◌∷◌, [], refl, arith}
use Rattle.std.proofs.lemmas.Grind.{common_steps}
use Rattle.lego_level.proofs.IncidenceLemmas.{adjacent_push, variables_push, not_err}
use Rattle.lego_level.proofs.edges.Edges.push.Goals as goal

pub invariant_of-self-2 : goal.invariant_of-self-2
invariant_of-self-2 c =
    let s = c.self.inside in let x = c.args.constraint in
    let items : c.push-3.new.self.items ≡ s.all.items ++ x ∷ [] = grind (arith, common_steps) in (
      adjacent_push Up s.leaving c.push.new.self s.all.items c.push-3.new.self.items x x.low.base refl items c.self.invariant.0 c.in_ok-push.ensures.at c.in_ok-push.ensures.other,
      adjacent_push Down s.arriving c.push-2.new.self s.all.items c.push-3.new.self.items x x.high.base refl items c.self.invariant.1
          (not_err c.push-2.result c.if-is_err.ensures.value c.push-2.ensures.at) (not_err c.push-2.result c.if-is_err.ensures.value c.push-2.ensures.other),
      variables_push s.count c.in_ok-count_with.field-0 c.in_ok-count.count s.all.items c.push-3.new.self.items x c.in_ok-count_with.ensures.more c.in_ok-count.ensures.more c.self.invariant.2
          c.in_ok-count_with.ensures.above c.in_ok-count.ensures.above items,
    )
