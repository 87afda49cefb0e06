use Rattle.std.proofs.Common.{◌≤◌, length}
use Rattle.lego_undo.specs.private.Last.{Undone}
use Rattle.lego_undo.proofs.history.History.undo.Given as goal

abbrev pub invariant-loop : goal.invariant-loop
invariant-loop l = record {
  undone : Undone l.fn.self l.fn.state l.counter l.self l.state;
  within : l.n ≤ length l.fn.self;
}
