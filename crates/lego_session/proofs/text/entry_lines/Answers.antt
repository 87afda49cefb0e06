use Rattle.std.proofs.Common.{refl, subst, drop, sym}
use Rattle.lego_print.specs.declared.shown.Shown.TheVariants.{Least}
use Rattle.lego_session.specs.private.Items.{AreItemsOf}
use Rattle.lego_session.proofs.HeadlineLemmas.{lines_are}
use Rattle.lego_session.proofs.text.entry_lines.Goals as goal

pub returns : goal.returns
returns c =
    let es = c.args.context.now.entries in
    lines_are c.args.names.now c.args.values.now es c.args.from c.deref.result.now _ (Least c.args.values)
    (subst (λ items. AreItemsOf items (drop c.args.from es)) (sym c.deref.ensures.value) c.in_ok-items.ensures) c.of.ensures refl c.entry_lines.result c.entry_lines.ensures
