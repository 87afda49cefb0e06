use Rattle.std.proofs.Common.{◌≡◌, take}
use Rattle.lego_session.specs.commands.Bindings.{FirstAreNew}
use Rattle.lego_session.proofs.commands.bindings.first_used.Given as goal

-- the names so far are new, and they are what was seen
abbrev pub invariant-loop-i : goal.invariant-loop-i
invariant-loop-i l = record {
  seen : l.seen.keys ≡ take l.i l.names;
  new : FirstAreNew l.context.entries l.names l.i;
}
