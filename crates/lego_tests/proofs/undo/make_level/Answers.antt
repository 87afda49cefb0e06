use Rattle.std.proofs.Common.{sym, subst}
use Rattle.lego_undo.specs.declared.state.State.{State}
use Rattle.lego_undo.specs.Histories.{GoesWith}
use Rattle.lego_tests.proofs.UndoLemmas.{universe_behind}
use Rattle.lego_tests.proofs.undo.make_level.Goals as goal

pub note_growth-requires : goal.note_growth-requires
note_growth-requires c =
    let behind = universe_behind _ c.extent-extent.ensures.exact c.extent-extent.ensures.context c.in-Ok.ensures in
    record { within = behind.0; goes = subst (λ (s : State). GoesWith c.args.history.now s) (sym behind.1) c.requires }
