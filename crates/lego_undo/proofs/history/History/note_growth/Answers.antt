use Rattle.lego_undo.proofs.HistoryLemmas.{growth, on_ok}
use Rattle.lego_undo.proofs.history.History.note_growth.Goals as goal

pub returns-clause-ok : goal.returns-clause-ok
returns-clause-ok c = on_ok c.push.result (λ e. growth c.args.self.now c.args.extent c.args.new.now c.requires.within c.requires.goes e) c.push.ensures.ok
