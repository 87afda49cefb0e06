use Rattle.std.proofs.Common.{◌≡◌, [], take}
use Rattle.lego_print.specs.Texts.{outer_scope, under_all}
use Rattle.lego_print.specs.private.Counted.{AreCounted}
use Rattle.lego_print.specs.private.Numbered.{scope_of}
use Rattle.lego_print.proofs.text.term_text.Given as goal

abbrev pub invariant-loop-x : goal.invariant-loop-x
invariant-loop-x g l =
    (l.page.text.items ≡ [])
    × AreCounted l.names (g.E.Entries.called l.entries) (g.E.Entries.in_scope l.entries) l.page.locals
    × (scope_of l.names (g.E.Entries.called l.entries) (g.E.Entries.in_scope l.entries) l.page.locals
    ≡ under_all (outer_scope l.names (g.E.Entries.called l.entries) (g.E.Entries.in_scope l.entries)) (take l.x-index l.x-items))
