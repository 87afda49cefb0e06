use Rattle.std.specs.Bool.{OnTrue}
use Rattle.std.proofs.Common.{subst}
use Rattle.lego_context.specs.Entries.{HasNoHole}
use Rattle.lego_tests.proofs.UndoLemmas.{universe_is_over}
use Rattle.lego_tests.proofs.undo.add.Goals as goal

pub assume-requires : goal.assume-requires
assume-requires c =
    let none = subst (λ b. OnTrue b (HasNoHole c.fresh_level.new.self.entries)) c.if-not-has_no_hole.false c.has_no_hole.ensures in
    universe_is_over c.args.context.now _ c.in-Ok.ensures c.in_ok-ty.ensures.0 none
