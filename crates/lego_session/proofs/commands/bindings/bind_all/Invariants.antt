use Rattle.std.proofs.Common.{map, take}
use Rattle.lego_grammar.specs.Surface.{written_binding}
use Rattle.lego_session.specs.commands.Bindings.{BindsAll}
use Rattle.lego_session.specs.private.Binding.{Extends}
use Rattle.lego_session.proofs.commands.bindings.bind_all.Given as goal

-- the entries of the bindings so far are made
abbrev pub invariant-loop-binding : goal.invariant-loop-binding
invariant-loop-binding l = record {
  made : BindsAll l.fn.state.context (take l.binding-index (map written_binding l.bindings)) l.state.context;
  extends : Extends l.fn.state.context l.state.context;
}
