use Rattle.std.proofs.Common.{sym, ◌∙◌}
use Rattle.lego_print.proofs.NamesLemmas.{any_text, no_text}
use Rattle.lego_print.proofs.page.Printer.is_entry.Goals as goal

pub returns-in-Some : goal.returns-in-Some
returns-in-Some g c =
    c.has_name.ensures
    ∙ sym (any_text c.args.self.now.names.now c.args.text.now c.in-Some.name (g.E.Entries.in_scope c.args.self.now.entries.now) c.len-held.ensures.distinct (sym c.in-Some.ensures))

pub returns-in-None : goal.returns-in-None
returns-in-None g c = sym (no_text c.args.self.now.names.now c.args.text.now (g.E.Entries.in_scope c.args.self.now.entries.now) (sym c.in-None.ensures))
