use Rattle.std.proofs.Common.{◌≡◌, ◌+◌, ℕ, suc, None, sym, ap, subst, ◌∙◌, arith}
use Rattle.lego_term.specs.Trees.{Core, map_leaves}
use Rattle.lego_term.specs.Made.{first_over}
use Rattle.lego_term.proofs.OverLemmas.{first_over-fits, pair_rebuilds}
use Rattle.lego_term.proofs.traversal.+rebuild.Goals as goal

pub returns-then-keeps : goal.returns-then-keeps
returns-then-keeps g t c =
    let same = c.keeps.ensures c.if-keeps.true in
    (c.in_ok-share.ensures.same ∙ sym same, ap first_over same ∙ first_over-fits c.args.t.now c.share.ensures.limits.0 c.share.ensures.limits.1)

pub returns-in_ok-n-in-Pair : goal.returns-in_ok-n-in-Pair
returns-in_ok-n-in-Pair g t c =
    let put : ℕ → Core → Core = map_leaves suc (g.L.Leaves.put_variable c.args.leaves.now) (g.L.Leaves.put_constant c.args.leaves.now) in
    let under = c.args.under in
    let next : under + 1 ≡ suc under = omega arith in
    let b : Core = c.in-Pair.b.now in
    let second : (c.in_ok-b-in-Pair.b ≡ put (suc under) b) × (first_over (put (suc under) b) ≡ None) =
    subst (λ (k : ℕ). (c.in_ok-b-in-Pair.b ≡ put k b) × (first_over (put k b) ≡ None)) next c.in_ok-b-in-Pair.ensures in
    pair_rebuilds c.in-Pair.binder (put under c.in-Pair.a.now) (put (suc under) b) (put under c.in-Pair.m.now) (put under c.in-Pair.n.now)
    c.in_ok-a-in-Pair.a c.in_ok-b-in-Pair.b c.in_ok-m-in-Pair.m c.in_ok-n-in-Pair.n (put under c.args.t.now) c.pair.result
    (sym (ap (put under) c.in-Pair.ensures.root)) c.in_ok-a-in-Pair.ensures second c.in_ok-m-in-Pair.ensures c.in_ok-n-in-Pair.ensures c.pair.ensures
