use Rattle.std.proofs.Common.{◌≡◌, List, ap, subst, IfOk}
use Rattle.lego_context.specs.Contexts.{Contents}
use Rattle.lego_inference.specs.declared.entry.Entry.{Entry as Item}
use Rattle.lego_session.specs.Refusals.{refusal_text}
use Rattle.lego_session.proofs.closing.refusal_of_rest.Goals as goal

pub returns : goal.returns
returns c =
    subst (λ (es : List Item). IfOk c.refusal_text-2.result (λ text. text.items ≡ refusal_text c.args.names.now es c.args.place c.args.cause.now))
    (ap (λ (x : Contents). x.entries) c.new.ensures) c.refusal_text-2.ensures
