use Rattle.std.proofs.Common.{◌++◌, ◌∷◌, [], ap, ◌∙◌, rules}
use Rattle.lego_undo.specs.Changes.{IsFrontOf}
use Rattle.lego_undo.specs.declared.change.Change.{Change}
use Rattle.lego_undo.specs.declared.change.Change.TheVariants.{Cut, Whole}
use Rattle.lego_undo.proofs.HistoryLemmas.{extended, replaced, on_ok}
use Rattle.lego_undo.proofs.history.History.note.Goals as goal
use Rattle.lego_undo.proofs.history.History.note.Goals.{then-extends, else-extends+in_ok-state}

pub returns-clause-ok : goal.returns-clause-ok
returns-clause-ok c =
    let cs = c.args.self.now in
    elim c.if-extends.branch [
      | then-extends w ↦
          let is = c.extends.ensures.0 (search (rules, w.if-extends.true)) in
          let change = w.change-is ∙ ap (λ n. Cut n) w.extent-extent.ensures.exact in
          on_ok c.push.result
          (λ e. extended cs c.args.old.now c.args.new.now w.extent-extent.ensures.context is c.requires (e ∙ ap (λ (x : Change). cs ++ x ∷ []) change)) c.push.ensures.ok
      | else-extends+in_ok-state w ↦
          let never : IsFrontOf c.args.old.now c.args.new.now → ⊥ = λ x. let t = c.extends.ensures.1 x in let f = w.if-extends.false in search rules in
          let change = w.change-is ∙ ap (λ s. Whole s) w.in_ok-state.ensures in
          on_ok c.push.result
          (λ e. replaced cs c.args.old.now c.args.new.now never c.requires (e ∙ ap (λ (x : Change). cs ++ x ∷ []) change)) c.push.ensures.ok
    ]
