use Rattle.std.specs.Bool.{OnTrue}
use Rattle.std.proofs.Common.{subst, arith}
use Rattle.lego_context.specs.Entries.{HasNoHole}
use Rattle.lego_tests.proofs.UndoLemmas.{can_be_forgotten}
use Rattle.lego_tests.proofs.undo.forget_all_but_one.Goals as goal

pub forget-requires-clause-alone : goal.forget-requires-clause-alone
forget-requires-clause-alone c =
    let none = subst (λ b. OnTrue b (HasNoHole c.args.state.now.context.entries)) c.if-not-has_no_hole.false c.has_no_hole.ensures in
    can_be_forgotten c.args.state.now.context 1 (omega (arith, c.len.ensures.exact)) none
