use Rattle.std.proofs.Common.{◌++◌, subst}
use Rattle.lego_term.specs.Trees.{Core, levels_of}
use Rattle.lego_print.proofs.LimitLemmas.{one_small, both_small, AreSmallLevels}
use Rattle.lego_print.proofs.limits.+levels_are_small.Goals.{in-Pi, in-Pi-2, in-Pi-3, in-Pi-4}
use Rattle.lego_print.proofs.limits.+levels_are_small.Goals as goal

pub returns-in-Univ : goal.returns-in-Univ
returns-in-Univ t c =
    let l = c.in-Univ.level in
    subst (λ (t : Core). AreSmallLevels c.args.values.now (levels_of t)) c.in-Univ.ensures.root (one_small c.args.values.now l c.level_is_small.ensures)

pub returns-in-Pair : goal.returns-in-Pair
returns-in-Pair t c =
    let v = c.args.values.now in
    let p = c.in-Pair in
    subst (λ (t : Core). AreSmallLevels v (levels_of t)) p.ensures.root
    (both_small v ((levels_of p.a.now ++ levels_of p.b.now) ++ levels_of p.m.now) (levels_of p.n.now)
    (both_small v (levels_of p.a.now ++ levels_of p.b.now) (levels_of p.m.now)
    (both_small v (levels_of p.a.now) (levels_of p.b.now) c.levels_are_small-in-Pair.ensures c.levels_are_small-in-Pair-2.ensures) c.levels_are_small-in-Pair-3.ensures)
    c.levels_are_small-in-Pair-4.ensures)

pub returns-in-Pi : goal.returns-in-Pi
returns-in-Pi t c =
    let v = c.args.values.now in
    let a = c.in-Pi-1.a in
    let both = both_small v _ _ c.levels_are_small-in-Pi.ensures c.levels_are_small-in-Pi-2.ensures in
    elim c.in-Pi-1.branch [
      | in-Pi w ↦
          subst (λ (t : Core). AreSmallLevels v (levels_of t)) w.in-Pi.ensures.root
          (subst (λ x. AreSmallLevels v (levels_of x.now ++ levels_of w.in-Pi.b.now)) w.a-is (subst (λ y. AreSmallLevels v (levels_of a.now ++ levels_of y.now)) w.b-is both))
      | in-Pi-2 w ↦
          subst (λ (t : Core). AreSmallLevels v (levels_of t)) w.in-Pi.ensures.root
          (subst (λ x. AreSmallLevels v (levels_of x.now ++ levels_of w.in-Pi.b.now)) w.a-is (subst (λ y. AreSmallLevels v (levels_of a.now ++ levels_of y.now)) w.b-is both))
      | in-Pi-3 w ↦
          subst (λ (t : Core). AreSmallLevels v (levels_of t)) w.in-Pi.ensures.root
          (subst (λ x. AreSmallLevels v (levels_of x.now ++ levels_of w.in-Pi.b.now)) w.a-is (subst (λ y. AreSmallLevels v (levels_of a.now ++ levels_of y.now)) w.b-is both))
      | in-Pi-4 w ↦
          subst (λ (t : Core). AreSmallLevels v (levels_of t)) w.in-Pi.ensures.root
          (subst (λ x. AreSmallLevels v (levels_of x.now ++ levels_of w.in-Pi.b.now)) w.a-is (subst (λ y. AreSmallLevels v (levels_of a.now ++ levels_of y.now)) w.b-is both))
    ]
