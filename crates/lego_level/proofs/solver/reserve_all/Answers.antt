use Rattle.std.proofs.Common.{◌≡◌, None, get_or, take, length, Contains, ap, ◌∙◌, sym, subst, ⊎_elim, arith}
use Rattle.std.proofs.lemmas.List.{take_all}
use Rattle.std.proofs.lemmas.List.Elements.{Contains-push_cases}
use Rattle.lego_level.specs.private.Potentials.{HasRoom}
use Rattle.lego_level.proofs.SolverLemmas.{item_parts}
use Rattle.lego_level.proofs.solver.reserve_all.Goals as goal

pub loop-node-preserved : goal.loop-node-preserved
loop-node-preserved c =
    let i = c.loop-node.node-index in let T = c.args.draft.now.touched.items in
    let it = item_parts c.as_slice-node-items.result.now T i None c.as_slice-node-items.ensures.value (omega arith) in
    let w = get_or c.as_slice-node-items.result.now i None in record {
      room = λ u h. ⊎_elim {C = HasRoom c.reserve.new.self u} (λ k. c.reserve.ensures.longer u (c.loop-node.invariant.room u k)) (λ e. subst (λ z. HasRoom c.reserve.new.self z) e c.in_ok-reserve.ensures.room)
          (Contains-push_cases (take i T) w u (subst (λ z. Contains z u) it.2 h));
      same = c.reserve.ensures.same ∙ c.loop-node.invariant.same;
      top = λ b. c.reserve.ensures.top (c.loop-node.invariant.top b);
    }

pub returns-clause-room : goal.returns-clause-room
returns-clause-room c = λ u h.
    let T = c.args.draft.now.touched.items in
    let e : take c.loop-node.node-index T ≡ T = take_all c.loop-node.node-index T (let k = ap length c.as_slice-node-items.ensures.value in omega (arith, k)) in
    c.loop-node.invariant.room u (subst (λ z. Contains z u) (sym e) h)
