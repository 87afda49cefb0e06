use Rattle.std.proofs.Common.{◌≡◌, ℕ, ◌<◌, false}
use Rattle.lego_print.specs.Names.{is_free, numbered, wished_name}
use Rattle.lego_print.specs.private.Numbered.{scope_of}
use Rattle.lego_print.proofs.page.Printer.frame.Given as goal

abbrev pub invariant-loop-number : goal.invariant-loop-number
invariant-loop-number g l =
    (m : ℕ) → m < l.number
    → is_free (scope_of l.self.names.now (g.E.Entries.called l.self.entries.now) (g.E.Entries.in_scope l.self.entries.now) l.page.locals) (numbered (wished_name l.self.names.now l.name) m) ≡ false
