use Rattle.std.proofs.Common.{take}
use Rattle.lego_session.specs.commands.Bindings.{AssumesAll}
use Rattle.lego_session.specs.private.Binding.{Extends}
use Rattle.lego_session.proofs.commands.entries.assume_all.Given as goal

-- the names so far are assumed
abbrev pub invariant-loop-name : goal.invariant-loop-name
invariant-loop-name l = record {
  made : AssumesAll l.mark l.ty l.asked.place l.fn.context (take l.name-index l.names) l.context;
  extends : Extends l.fn.context l.context;
}
