use Rattle.std.proofs.Common.{◌<◌, suc, ap, sym, ◌∙◌, arith}
use Rattle.lego_print.specs.Names.{wished_name}
use Rattle.lego_print.specs.private.Numbered.{scope_of, numbered_frame}
use Rattle.lego_print.proofs.CountedLemmas.{taken_by}
use Rattle.lego_print.proofs.page.Printer.first_number.Goals as goal

pub returns-in-Some-wishing : goal.returns-in-Some-wishing
returns-in-Some-wishing g c =
    let names = c.args.self.now.names.now in
    let called = g.E.Entries.called c.args.self.now.entries.now in
    let entries = g.E.Entries.in_scope c.args.self.now.entries.now in
    let locals = c.args.page.now.locals in
    let found = c.in-Some-wishing.ensures in
    let frame = numbered_frame c.in-Some-wishing.frame.now in
    let taken = taken_by names called entries locals c.requires found.0.0 frame found.0.1 in
    λ m l.
    ap (λ w. Rattle.lego_print.specs.Names.is_free (scope_of names called entries locals) (Rattle.lego_print.specs.Names.numbered (wished_name names w) m)) (sym found.1)
    ∙ taken m (let few : m < suc c.in-Some-wishing.frame.now.number = omega (arith, c.saturating_add.ensures) in few)
