use Rattle.std.proofs.Common.{◌∙◌}
use Rattle.lego_session.proofs.StepLemmas.{takes-back, not-taken-back}
use Rattle.lego_session.proofs.parts.Parts.undo.Goals as goal

pub returns-in-Ok-undo-clause-ok : goal.returns-in-Ok-undo-clause-ok
returns-in-Ok-undo-clause-ok c =
    let old = c.args.self.now in
    record {
      undoes = takes-back old.history c.undo.new.self old.state c.undo.new.state c.args.count c.in-Ok-undo.ensures.ok;
      is_text = c.of.ensures ∙ c.in-Ok.ensures;
    }

pub returns-in-Err-clause-cause : goal.returns-in-Err-clause-cause
returns-in-Err-clause-cause c =
    let old = c.args.self.now in
    λ limit.
    not-taken-back c.args.names.now limit old.history old.state c.undo.new.state c.args.count c.args.place c.in-Err.fault c.from.result c.refusal.result
    c.in-Err.ensures.cause c.in-Err.ensures.kept c.from.ensures c.refusal.ensures
