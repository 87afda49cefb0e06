use Rattle.std.proofs.Common.{subst}
use Rattle.lego_term.specs.BodyMap.{bodies_in}
use Rattle.lego_term.specs.Sequences.{normal_step}
use Rattle.lego_reduce.specs.Reduction.{Reduces}
use Rattle.lego_compare.proofs.CauseLemmas.{of_reduction, of_end}
use Rattle.lego_compare.proofs.compare.too_large.Goals.{in-Ok, in-Err}
use Rattle.lego_compare.proofs.compare.too_large.Goals as goal

pub returns : goal.returns
returns c =
    elim c.match-normal.branch [
      | in-Ok w ↦
          rw w.result-is (of_end (bodies_in c.args.setting.now.bodies.now) c.args.t.now c.args.limit c.args.size c.args.depth _ (subst (λ r. Reduces (normal_step (bodies_in c.args.setting.now.bodies.now)) c.args.t.now c.args.limit r) w.in-Ok.is c.normal.ensures) c.requires.path)
      | in-Err w ↦
          rw (w.result-is, w.reduction_fault.ensures) (of_reduction (bodies_in c.args.setting.now.bodies.now) c.args.t.now c.args.limit c.args.size c.args.depth _ c.requires.path (subst (λ r. Reduces (normal_step (bodies_in c.args.setting.now.bodies.now)) c.args.t.now c.args.limit r) w.in-Err.is c.normal.ensures))
    ]
