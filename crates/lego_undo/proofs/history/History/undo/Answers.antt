use Rattle.std.proofs.Common.{◌≡◌, subst, arith, ℕ}
use Rattle.lego_undo.specs.Changes.{Undoes}
use Rattle.lego_undo.proofs.HistoryLemmas.{undoes}
use Rattle.lego_undo.proofs.history.History.undo.Goals as goal

pub returns-clause-ok : goal.returns-clause-ok
returns-clause-ok c =
    let u = undoes c.loop.invariant.undone in
    let all : c.loop.counter ≡ c.args.n = omega arith in
    subst (λ (n : ℕ). Undoes c.args.self.now c.args.state.now n c.loop.self c.loop.state) all u
