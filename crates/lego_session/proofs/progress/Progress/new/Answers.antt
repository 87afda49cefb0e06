use Rattle.std.proofs.Common.{[], refl}
use Rattle.lego_session.proofs.HeldLemmas.{empty_known}
use Rattle.lego_session.proofs.RunLemmas.{reached_first}
use Rattle.lego_session.proofs.progress.Progress.new.Goals as goal

pub returns-clause-fresh : goal.returns-clause-fresh
returns-clause-fresh c = record {
  came = [];
  bytes = [];
  parts = refl;
  reached = rw (c.new-names.ensures, c.new-session.ensures) (reached_first c.args.options.steps c.args.options.stop);
  refused = refl;
  pending = c.new-pending.ensures;
  known = rw (c.new-names.ensures, c.new-session.ensures) empty_known;
}
