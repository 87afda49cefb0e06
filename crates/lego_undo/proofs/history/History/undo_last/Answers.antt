use Rattle.std.proofs.Common.{◌≡◌, ◌∷◌, [], ◌++◌, sym, ap, ◌∙◌}
use Rattle.lego_undo.specs.Histories.{before, front}
use Rattle.lego_undo.specs.declared.change.Change.{Change}
use Rattle.lego_undo.specs.declared.change.Change.TheVariants.{Cut}
use Rattle.lego_undo.proofs.HistoryLemmas.{last_undone, last_fits}
use Rattle.lego_undo.proofs.history.History.undo_last.Goals as goal
use Rattle.lego_undo.proofs.history.History.undo_last.Goals.{in-Cut, in-Whole}

pub cut_to-requires : goal.cut_to-requires
cut_to-requires c =
    let after = c.pop.new.self.items in
    let last : c.args.self.now ≡ after ++ Cut c.in-Cut.extent ∷ [] =
    sym c.self.view_is ∙ (c.in-Some.ensures.items ∙ ap (λ (x : Change). after ++ x ∷ []) c.in-Cut.is) in
    last_fits after (Cut c.in-Cut.extent) c.args.state.now last c.requires.goes

pub returns : goal.returns
returns c =
    let after = c.pop.new.self.items in
    let state = c.args.state.now in
    let last : c.args.self.now ≡ after ++ c.in-Some.change ∷ [] = sym c.self.view_is ∙ c.in-Some.ensures.items in
    elim c.match-change.branch [
      | in-Cut w ↦
          let new : c.match-change.state ≡ front w.in-Cut.extent state = w.state-is ∙ w.cut_to.ensures in
          last_undone c.in-Some.change last c.requires.goes (new ∙ ap (λ (x : Change). before x state) (sym w.in-Cut.is))
      | in-Whole w ↦ last_undone c.in-Some.change last c.requires.goes (w.state-is ∙ ap (λ (x : Change). before x state) (sym w.in-Whole.is))
    ]
