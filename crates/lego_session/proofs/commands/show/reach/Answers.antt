use Rattle.std.proofs.Common.{sym, ap, ◌∙◌}
use Rattle.lego_term.specs.Sequences.{head_step, normal_step}
use Rattle.lego_term.specs.BodyMap.{bodies_in}
use Rattle.lego_session.specs.commands.Show.{step_to}
use Rattle.lego_session.specs.private.Shown.{form_of}
use Rattle.lego_session.proofs.ShowLemmas.{reaches}
use Rattle.lego_session.proofs.commands.show.reach.Goals.{in-Head, in-Normal}
use Rattle.lego_session.proofs.commands.show.reach.Goals as goal

pub returns-in-Ok : goal.returns-in-Ok
returns-in-Ok c =
    let es = c.args.context.now.entries in
    let bodies = c.bodies-bodies.result.now in
    elim c.match-form.branch [
      | in-Head w ↦
          reaches (form_of c.args.form) (head_step (bodies_in bodies)) es c.args.core c.args.asked.limit w.head-reduced.result c.in-Ok.reduced w.head-reduced.ensures
          (sym w.reduced-is ∙ c.in-Ok.is) (ap head_step c.bodies-bodies.ensures.exact ∙ sym (ap (λ f. step_to (form_of f) es) w.in-Head.is))
      | in-Normal w ↦
          reaches (form_of c.args.form) (normal_step (bodies_in bodies)) es c.args.core c.args.asked.limit w.normal-reduced.result c.in-Ok.reduced w.normal-reduced.ensures
          (sym w.reduced-is ∙ c.in-Ok.is) (ap normal_step c.bodies-bodies.ensures.exact ∙ sym (ap (λ f. step_to (form_of f) es) w.in-Normal.is))
    ]
