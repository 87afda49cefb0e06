use Rattle.std.proofs.Common.{◌≡◌, ◌+◌, ℕ, Option, None, get_or, drop, length, sym, ap, ◌∙◌, arith, subst}
use Rattle.std.proofs.lemmas.List.{drop_all}
use Rattle.std.proofs.Math.Path.{fun_ext}
use Rattle.lego_level.specs.declared.draft.Reached.{Reached}
use Rattle.lego_level.specs.declared.potential.Potential.{Potential}
use Rattle.lego_level.specs.private.Potentials.{value_at, HasRoom, IsBelowTop}
use Rattle.lego_level.specs.private.Searches.{reached_at}
use Rattle.lego_level.proofs.SolverLemmas.{IsMoving, moving_first, moving_moved, moving_stays, moving_last, item_parts}
use Rattle.lego_level.proofs.solver.keep.Goals as goal
use Rattle.lego_level.proofs.solver.keep.Goals.{then-reached-gt0, else-reached-gt0}

pub loop-node-init : goal.loop-node-init
loop-node-init c = record {
  room = λ u h. h;
  moving = moving_first (value_at c.args.potential.now) c.args.draft.now c.requires.touched;
  top = λ b. b;
}

pub write-requires : goal.write-requires
write-requires c =
    let it = item_parts c.as_slice-node-items.result.now c.args.draft.now.touched.items c.loop-node.node-index None c.as_slice-node-items.ensures.value (omega arith) in
    let w = get_or c.as_slice-node-items.result.now c.loop-node.node-index None in c.loop-node.invariant.room w (c.requires.room w it.1)

pub loop-node-preserved : goal.loop-node-preserved
loop-node-preserved c =
    let i = c.loop-node.node-index in let T = c.args.draft.now.touched.items in let v = value_at c.args.potential.now in let d = reached_at c.args.draft.now in
    let it = item_parts c.as_slice-node-items.result.now T i None c.as_slice-node-items.ensures.value (omega arith) in
    let node = get_or c.as_slice-node-items.result.now i None in let old = c.loop-node.potential in let inv = c.loop-node.invariant in
    let gain : c.get-reached.result.gain ≡ (d node).gain = ap (λ (r : Reached). r.gain) c.get-reached.ensures in
    let Goal : Potential → Type 0 = λ p. record {
      room : (u : Option ℕ) → HasRoom c.args.potential.now u → HasRoom p u;
      moving : (u : Option ℕ) → IsMoving v (value_at p) d (drop (i + 1) T) u;
      top : IsBelowTop c.args.potential.now → IsBelowTop p;
    } in
    elim c.if-reached-gt0.branch [
      | then-reached-gt0 w ↦
          (let pos = w.if-reached-gt0.true in subst Goal (sym w.potential-is) (record {
            room = λ u h. w.write.ensures.room u (inv.room u h);
            moving = moving_moved v (value_at old) (value_at w.write.new.self) d (drop i T) (drop (i + 1) T) node it.0 (omega (arith, pos, gain))
                (w.write.ensures.at ∙ ap (λ (r : Reached). r.value) c.get-reached.ensures) w.write.ensures.other inv.moving;
            top = λ b. w.write.ensures.top (inv.top b);
          }))
      | else-reached-gt0 w ↦
          (let none = w.if-reached-gt0.false in subst Goal (sym w.potential-is) (record {
            room = inv.room;
            moving = moving_stays v (value_at old) d (drop i T) (drop (i + 1) T) node it.0 (omega (arith, none, gain)) inv.moving;
            top = inv.top;
          }))
    ]

pub returns-clause-moved : goal.returns-clause-moved
returns-clause-moved c =
    let T = c.args.draft.now.touched.items in
    fun_ext (moving_last (value_at c.args.potential.now) (value_at c.loop-node.potential) (reached_at c.args.draft.now) (drop c.loop-node.node-index T)
    (drop_all c.loop-node.node-index T (let k = ap length c.as_slice-node-items.ensures.value in omega (arith, k))) c.loop-node.invariant.moving)
